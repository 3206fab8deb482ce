use Rattle.std.proofs.Common.{◌≡◌, ◌-◌, ◌*◌, ◌^◌, ◌≤◌, ◌≤ℤ◌, ◌+ℤ◌, drop, pos, ◌*ℤ◌}
use Rattle.arrow2_numeric.specs.Aggregates.{sum_of}
use Rattle.arrow2_numeric.proofs.aggregate.sum_of_block.Given as goal

abbrev pub invariant-loop-value : goal.invariant-loop-value
invariant-loop-value g l = record {
  sum : ((l.sums.0 *ℤ pos (2 ^ 32)) +ℤ pos l.sums.1) +ℤ sum_of g.T.WholeNumber.integer (drop l.value-index l.values) ≡ sum_of g.T.WholeNumber.integer l.values;
  lower : l.sums.1 ≤ l.value-index * (2 ^ 32 - 1);
  low : pos 0 ≤ℤ (l.sums.0 +ℤ pos (l.value-index * 2 ^ 31));
  high : l.sums.0 ≤ℤ pos (l.value-index * (2 ^ 32 - 1));
}
