use Rattle.std.proofs.Common.{◌≡◌, Some, drop}
use Rattle.arrow2_numeric.specs.Aggregates.{best_from}
use Rattle.arrow2_numeric.proofs.aggregate.best_of.Given as goal

abbrev pub invariant-loop-value : goal.invariant-loop-value
invariant-loop-value g l = best_from g.C.Choice.kept (Some l.best) (drop l.value-index l.others) ≡ best_from g.C.Choice.kept l.fn.best l.values
