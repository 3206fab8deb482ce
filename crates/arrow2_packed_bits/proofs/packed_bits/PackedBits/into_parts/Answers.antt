use Rattle.std.proofs.Common.{◌∙◌, ap}
use Rattle.arrow2_model.specs.Lists.{canonical_bytes}
use Rattle.arrow2_model.proofs.Canonical.{canonical_is}
use Rattle.arrow2_packed_bits.proofs.packed_bits.PackedBits.into_parts.Goals as goal

pub returns-clause-bytes : goal.returns-clause-bytes
returns-clause-bytes c = canonical_is c.self.inside.bytes.items c.self.inside.length c.self.invariant ∙ ap (λ m. canonical_bytes m.items) c.self.view_is
