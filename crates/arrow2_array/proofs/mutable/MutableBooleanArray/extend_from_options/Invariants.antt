use Rattle.std.proofs.Common.{◌≡◌, ◌+◌, ◌≤◌, ◌++◌, length, take}
use Rattle.arrow2_array.proofs.mutable.MutableBooleanArray.extend_from_options.Given as goal

abbrev pub invariant-loop-item : goal.invariant-loop-item
invariant-loop-item l = record {
  items : l.self.items ≡ l.fn.self.items ++ take l.item-index l.items;
  spare : length l.fn.self.items + length l.items ≤ l.self.capacity;
  capacity : l.fn.self.capacity ≤ l.self.capacity;
}
