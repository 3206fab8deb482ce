use Rattle.std.proofs.Common.{◌≡◌, ◌-◌, ◌≤◌, ◌+ℤ◌, length, flat_map}
use Rattle.arrow2_model.specs.Lists.{unnum, part}
use Rattle.arrow2_walks.specs.Selections.{selection}
use Rattle.arrow2_numeric.specs.Aggregates.{sum_of, IsInSumRange}
use Rattle.arrow2_numeric.proofs.aggregate.sum_of_word.Given as goal

abbrev pub invariant-loop-position : goal.invariant-loop-position
invariant-loop-position g l =
    let all = selection l.values (unnum 64 l.word) in
    let left = flat_map (λ position. part l.values position 1) l.position-iterator in
    record {
      sum : l.total +ℤ sum_of g.T.WholeNumber.integer left ≡ sum_of g.T.WholeNumber.integer all;
      few : length left ≤ length all;
      range : IsInSumRange (length all - length left) l.total;
    }
