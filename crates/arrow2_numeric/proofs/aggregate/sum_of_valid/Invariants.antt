use Rattle.std.proofs.Common.{◌≡◌, ◌-◌, ◌≤◌, ◌+ℤ◌, length}
use Rattle.arrow2_model.specs.Lists.{items_of}
use Rattle.arrow2_numeric.specs.MaskedBlocks.{selected_left}
use Rattle.arrow2_walks.specs.Selections.{selection}
use Rattle.arrow2_numeric.specs.Aggregates.{sum_of, IsInSumRange}
use Rattle.arrow2_numeric.proofs.aggregate.sum_of_valid.Given as goal

abbrev pub invariant-loop-block : goal.invariant-loop-block
invariant-loop-block g l =
    let all = selection l.values (items_of l.validity) in
    record {
      sum : l.total +ℤ sum_of g.T.WholeNumber.integer (selected_left l.blocks) ≡ sum_of g.T.WholeNumber.integer all;
      few : length (selected_left l.blocks) ≤ length all;
      range : IsInSumRange (length all - length (selected_left l.blocks)) l.total;
    }

abbrev pub decreases-loop-block : goal.decreases-loop-block
decreases-loop-block g l = length l.blocks.values
