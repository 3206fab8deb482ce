use Rattle.std.proofs.Common.{◌∙◌, ap, arith, Some}
use Rattle.std.proofs.lemmas.Option.{slice_get-get_or}
use Rattle.arrow2_model.specs.Lists.{bit, bits, unnum}
use Rattle.arrow2_model.proofs.Bits.{get_or-unnum, get_or-bits_at, length-unnum, length-bits}
use Rattle.arrow2_model.proofs.laws.a_bit_is_an_item.Goals as goal

pub returns : goal.returns
returns c = record {
  number = λ w x i h. slice_get-get_or (unnum w x) i (bit x i) (omega (arith, h, length-unnum w x)) ∙ ap Some (get_or-unnum w x i (bit x i) h);
  bytes = λ bytes k h. let d = bit 0 0 in slice_get-get_or (bits bytes) k d (omega (arith, h, length-bits bytes)) ∙ ap Some (get_or-bits_at bytes k d h);
}
