use Rattle.std.proofs.Common.{◌≡◌, ◌≤◌, None, map, take, slice_index_or, sum_by}
use Rattle.arrow2_text.specs.Binary.{binary_items}
use Rattle.arrow2_compute.specs.Sizes.{item_bytes}
use Rattle.arrow2_compute.proofs.take.take_binary.Given as goal

abbrev pub invariant-loop-index : goal.invariant-loop-index
invariant-loop-index g l = record {
  items : l.taken.items ≡ map (λ index. slice_index_or (binary_items l.array) index None) (take l.index-index l.indices);
  bytes : l.taken.bytes ≡ sum_by item_bytes l.taken.items;
  fits : l.taken.bytes ≤ g.O.OffsetNumber.MAX;
  data_type : l.taken.data_type ≡ l.array.data_type;
}
