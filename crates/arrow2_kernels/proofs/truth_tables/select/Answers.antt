use Rattle.arrow2_kernels.proofs.TableSteps.{chosen_bit}
use Rattle.arrow2_kernels.proofs.truth_tables.select.Goals as goal

pub returns : goal.returns
returns g c i h = chosen_bit g.T.BitChunk.WIDTH _ _ _ _ _ _ _ i c.bit_and.ensures.bits c.bit_not.ensures.bits c.bit_and-2.ensures.bits c.bit_or.ensures.bits h
