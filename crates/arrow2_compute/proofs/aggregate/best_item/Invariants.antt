use Rattle.std.proofs.Common.{◌≡◌, drop, None, option_copied}
use Rattle.arrow2_numeric.specs.Aggregates.{best_from}
use Rattle.arrow2_text.specs.Binary.{binary_items}
use Rattle.arrow2_walks.specs.Selections.{non_null_values}
use Rattle.arrow2_compute.proofs.aggregate.best_item.Given as goal

abbrev pub invariant-loop-index : goal.invariant-loop-index
invariant-loop-index g l =
    let items = binary_items l.fn.array in
    best_from g.C.Choice.kept (option_copied l.best) (non_null_values (drop l.index items)) ≡ best_from g.C.Choice.kept None (non_null_values items)
