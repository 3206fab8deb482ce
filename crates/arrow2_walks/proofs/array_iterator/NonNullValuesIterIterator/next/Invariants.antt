use Rattle.std.proofs.Common.{◌≡◌, length}
use Rattle.arrow2_walks.specs.Selections.{non_null_values}
use Rattle.arrow2_walks.proofs.array_iterator.NonNullValuesIterIterator.next.Given as goal

abbrev pub invariant-loop-item : goal.invariant-loop-item
invariant-loop-item g l = non_null_values l.self-inside.items ≡ l.fn.self

abbrev pub decreases-loop-item : goal.decreases-loop-item
decreases-loop-item g l = length l.self-inside.items
