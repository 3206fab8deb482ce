use Rattle.std.proofs.Common.{◌∙◌, sym}
use Rattle.arrow2_kernels.proofs.TableSteps.{zero_bit, ones_bit}
use Rattle.arrow2_kernels.proofs.truth_tables.splat_bit.Goals as goal

pub returns-then-value : goal.returns-then-value
returns-then-value g c i h = ones_bit g.T.BitChunk.WIDTH _ _ _ i c.bit_xor-zeros.ensures.bits c.bit_not.ensures.bits h ∙ sym c.if-value.true

pub returns-else-value : goal.returns-else-value
returns-else-value g c i h = zero_bit g.T.BitChunk.WIDTH _ _ i c.bit_xor-zeros.ensures.bits h ∙ sym c.if-value.false
