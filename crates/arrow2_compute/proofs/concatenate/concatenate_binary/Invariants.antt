use Rattle.std.proofs.Common.{◌≡◌, ◌+◌, ◌<◌, ◌≤◌, ◌^◌, ◌++◌, length, take, sum_by, flat_map}
use Rattle.arrow2_text.specs.Binary.{binary_items}
use Rattle.arrow2_compute.specs.Sizes.{slot_bytes}
use Rattle.arrow2_compute.proofs.concatenate.concatenate_binary.Given as goal

abbrev pub invariant-loop-array : goal.invariant-loop-array
invariant-loop-array g l = record {
  items : l.joined.items ≡ binary_items l.first ++ flat_map (λ array. binary_items array.now) (take l.array-index l.others);
  bytes : l.joined.bytes ≡ slot_bytes l.first + sum_by (λ array. slot_bytes array.now) (take l.array-index l.others);
  fits : l.joined.bytes ≤ g.O.OffsetNumber.MAX;
  counted : length l.joined.items < 2 ^ 64;
  data_type : l.joined.data_type ≡ l.first.data_type;
}
