use Rattle.std.proofs.Common.{◌≡◌, Some, drop}
use Rattle.arrow2_numeric.specs.Aggregates.{best_from}
use Rattle.arrow2_numeric.proofs.aggregate.best_of_halves.Given as goal

abbrev pub invariant-loop-index : goal.invariant-loop-index
invariant-loop-index g l = record {
  front : best_from g.C.Choice.kept (Some l.best) (drop l.index l.front) ≡ best_from g.C.Choice.kept (Some l.initial.best) l.front;
  back : best_from g.C.Choice.kept (Some l.other) (drop l.index l.back) ≡ best_from g.C.Choice.kept (Some l.initial.other) l.back;
}
