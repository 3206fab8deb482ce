use Rattle.std.proofs.Common.{◌≡◌, ◌-◌, ◌≤◌, ◌+ℤ◌, length, drop}
use Rattle.arrow2_numeric.specs.Aggregates.{sum_of, IsInSumRange}
use Rattle.arrow2_numeric.proofs.aggregate.sum_of_values.Given as goal

abbrev pub invariant-loop-start : goal.invariant-loop-start
invariant-loop-start g l = record {
  sum : l.total +ℤ sum_of g.T.WholeNumber.integer (drop l.start l.values) ≡ sum_of g.T.WholeNumber.integer l.values;
  range : IsInSumRange l.start l.total;
  within : l.start ≤ length l.values;
}

abbrev pub decreases-loop-start : goal.decreases-loop-start
decreases-loop-start g l = l.count - l.start
