use Rattle.std.proofs.Common.{◌≡◌}
use Rattle.arrow2_array.proofs.mutable.MutableBooleanArray.collect_items.Given as goal

abbrev pub invariant-loop-item : goal.invariant-loop-item
invariant-loop-item g l = l.array.items ≡ l.yielded
