use Rattle.std.proofs.Common.{◌/◌, ◌%◌, arith}
use Rattle.arrow2_model.proofs.Bits.{bits-set}
use Rattle.arrow2_bits.proofs.set_bit.Goals as goal

pub returns : goal.returns
returns c = bits-set c.args.bytes.now (c.args.i / 8) (c.args.i % 8) c.args.i c.set.result c.args.value (omega arith) (omega arith) (omega arith) c.set.ensures
