use Rattle.std.proofs.Common.{◌∙◌, ap}
use Rattle.arrow2_model.specs.Lists.{canonical_bytes}
use Rattle.arrow2_model.proofs.Canonical.{canonical_is}
use Rattle.arrow2_packed_bits.proofs.packed_bits.PackedBits.as_slice.Goals as goal

pub returns-clause-bytes : goal.returns-clause-bytes
returns-clause-bytes c =
    let b = c.self.inside in
    c.as_slice.ensures.value ∙ (canonical_is b.bytes.items b.length c.self.invariant ∙ ap (λ m. canonical_bytes m.items) c.self.view_is)
