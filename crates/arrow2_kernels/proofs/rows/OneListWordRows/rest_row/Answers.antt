use Rattle.std.proofs.Common.{◌∷◌, [], arith, ap}
use Rattle.arrow2_kernels.proofs.RowSteps.{one_rest}
use Rattle.arrow2_kernels.proofs.rows.OneListWordRows.rest_row.Goals as goal

pub returns-clause-row : goal.returns-clause-row
returns-clause-row g c = ap (λ n. n ∷ []) (one_rest _ _ _ _ _ (omega (arith, g.met.B.BitChunk.width_bounds)) c.requires.short c.remainder.ensures.rest c.remainder_len.ensures.rest c.masked.ensures.bits c.masked.ensures.fits)
