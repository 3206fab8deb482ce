use Rattle.arrow2_model.proofs.Bits.{bit_shifted}
use Rattle.arrow2_bits.proofs.is_set.Goals as goal

pub returns : goal.returns
returns c = rw c.from.ensures (bit_shifted c.args.byte c.args.i)
