use Rattle.std.proofs.Common.{◌∙◌, sym, false}
use Rattle.arrow2_model.proofs.Bits.{get_or-bits_at}
use Rattle.arrow2_bits.proofs.get_bit.Goals as goal

pub returns : goal.returns
returns c = c.is_set.ensures ∙ sym (get_or-bits_at c.args.bytes.now c.args.i false c.requires)
