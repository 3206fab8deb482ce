use Rattle.std.proofs.Common.{take, All}
use Rattle.arrow2_primitive.specs.Primitive.{primitive_items}
use Rattle.arrow2_numeric.specs.Casts.{Fits}
use Rattle.arrow2_numeric.proofs.cast.check_fits.Given as goal

abbrev pub invariant-loop-index : goal.invariant-loop-index
invariant-loop-index g l = All (Fits g.I.Number.value g.O.Number.fits) (take l.index (primitive_items l.array))
