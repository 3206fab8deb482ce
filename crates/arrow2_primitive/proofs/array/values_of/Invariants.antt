use Rattle.std.proofs.Common.{◌≡◌, ◌≤◌, length, map, take, is_some, vec_len, vec_capacity}
use Rattle.arrow2_walks.specs.Zipped.{zipped}
use Rattle.arrow2_primitive.proofs.array.values_of.Given as goal

abbrev pub invariant-loop-item : goal.invariant-loop-item
invariant-loop-item g l = record {
  items : zipped l.values.items (map is_some (take l.item-index l.items)) ≡ take l.item-index l.items;
  len : vec_len l.values ≡ l.item-index;
  spare : length l.items ≤ vec_capacity l.values;
}
