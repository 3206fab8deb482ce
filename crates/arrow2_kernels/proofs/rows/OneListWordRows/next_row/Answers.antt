use Rattle.std.proofs.Common.{arith}
use Rattle.arrow2_kernels.proofs.RowSteps.{one_step}
use Rattle.arrow2_kernels.proofs.rows.OneListWordRows.next_row.Goals as goal

pub returns-clause-row : goal.returns-clause-row
returns-clause-row g c = one_step _ _ _ _ _ _ (omega (arith, g.met.B.BitChunk.width_bounds)) (g.met.I.BitChunkIterExact.gives_law _ _ _ c.next.ensures.steps)
