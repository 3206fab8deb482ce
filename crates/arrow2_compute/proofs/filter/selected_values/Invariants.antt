use Rattle.std.proofs.Common.{◌≡◌, ◌++◌, length}
use Rattle.arrow2_model.specs.Lists.{items_of}
use Rattle.arrow2_numeric.specs.MaskedBlocks.{selected_left}
use Rattle.arrow2_walks.specs.Selections.{selection}
use Rattle.arrow2_compute.proofs.filter.selected_values.Given as goal

abbrev pub invariant-loop-block : goal.invariant-loop-block
invariant-loop-block g l = l.kept.items ++ selected_left l.blocks ≡ selection l.values (items_of l.mask)

abbrev pub decreases-loop-block : goal.decreases-loop-block
decreases-loop-block g l = length l.blocks.values
