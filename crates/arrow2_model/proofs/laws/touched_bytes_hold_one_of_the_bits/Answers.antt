use Rattle.arrow2_model.proofs.Touched.{touched_bytes}
use Rattle.arrow2_model.proofs.laws.touched_bytes_hold_one_of_the_bits.Goals as goal

pub returns : goal.returns
returns c = touched_bytes
