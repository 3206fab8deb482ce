use Rattle.std.proofs.Common.{◌≡◌, ◌≤◌, map, take, sum_by}
use Rattle.arrow2_primitive.specs.Primitive.{primitive_items}
use Rattle.arrow2_text.specs.Binary.{binary_items}
use Rattle.arrow2_compute.specs.Sizes.{item_bytes}
use Rattle.arrow2_compute.specs.Take.{item_at}
use Rattle.arrow2_compute.proofs.take.take_binary_by_array.Given as goal

abbrev pub invariant-loop-position : goal.invariant-loop-position
invariant-loop-position g l = record {
  items : l.taken.items ≡ map (item_at g.I.Number.value (binary_items l.array)) (take l.position (primitive_items l.indices));
  bytes : l.taken.bytes ≡ sum_by item_bytes l.taken.items;
  fits : l.taken.bytes ≤ g.O.OffsetNumber.MAX;
  data_type : l.taken.data_type ≡ l.array.data_type;
}
