use Rattle.std.proofs.Common.{◌≡◌, ◌++◌, take, flat_map}
use Rattle.arrow2_primitive.specs.Primitive.{primitive_items}
use Rattle.arrow2_compute.proofs.concatenate.concatenate.Given as goal

abbrev pub invariant-loop-array : goal.invariant-loop-array
invariant-loop-array g l = record {
  items : l.joined.items ≡ primitive_items l.first ++ flat_map (λ array. primitive_items array.now) (take l.array-index l.others);
  data_type : l.joined.data_type ≡ l.first.data_type;
}
