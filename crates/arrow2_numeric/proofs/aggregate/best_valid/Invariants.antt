use Rattle.std.proofs.Common.{◌≡◌, length, None}
use Rattle.arrow2_model.specs.Lists.{items_of}
use Rattle.arrow2_numeric.specs.MaskedBlocks.{selected_left}
use Rattle.arrow2_walks.specs.Selections.{selection}
use Rattle.arrow2_numeric.specs.Aggregates.{best_from}
use Rattle.arrow2_numeric.proofs.aggregate.best_valid.Given as goal

abbrev pub invariant-loop-block : goal.invariant-loop-block
invariant-loop-block g l = best_from g.C.Choice.kept l.best (selected_left l.blocks) ≡ best_from g.C.Choice.kept None (selection l.values (items_of l.validity))

abbrev pub decreases-loop-block : goal.decreases-loop-block
decreases-loop-block g l = length l.blocks.values
