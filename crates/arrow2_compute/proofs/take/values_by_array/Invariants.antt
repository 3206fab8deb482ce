use Rattle.std.proofs.Common.{◌≡◌, ◌≤◌, length, map, take, is_some, vec_len, vec_capacity}
use Rattle.arrow2_primitive.specs.Primitive.{primitive_items}
use Rattle.arrow2_walks.specs.Zipped.{zipped}
use Rattle.arrow2_compute.specs.Take.{item_at}
use Rattle.arrow2_compute.proofs.take.values_by_array.Given as goal

abbrev pub invariant-loop-position : goal.invariant-loop-position
invariant-loop-position g l = record {
  items : zipped l.taken.items (map is_some (take l.position (map (item_at g.I.Number.value (primitive_items l.array)) (primitive_items l.indices)))) ≡ take l.position (map (item_at g.I.Number.value (primitive_items l.array)) (primitive_items l.indices));
  len : vec_len l.taken ≡ l.position;
  spare : length (primitive_items l.indices) ≤ vec_capacity l.taken;
}
