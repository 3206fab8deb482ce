use Rattle.std.proofs.Common.{◌∙◌, List, ℕ, length, take, ap}
use Rattle.arrow2_model.specs.Lists.{bits}
use Rattle.arrow2_bits.proofs.WordIterators.{front_items}
use Rattle.arrow2_ffi.proofs.in_place.copy_bytes.Goals as goal

pub returns : goal.returns
returns c =
    let n : ℕ = c.args.len in
    record {
      items = c.clear_padding.ensures.items ∙ (ap (λ (b : List ℕ). take n (bits b)) c.copy_from_slice.ensures.after
          ∙ front_items c.args.bytes.now (length c.args.out.now) n c.requires.inside c.requires.exact);
      canonical = c.clear_padding.ensures.canonical;
    }
