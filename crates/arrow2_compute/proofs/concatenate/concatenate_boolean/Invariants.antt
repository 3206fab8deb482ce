use Rattle.std.proofs.Common.{◌≡◌, ◌++◌, take, flat_map}
use Rattle.arrow2_array.specs.Items.{boolean_items}
use Rattle.arrow2_compute.proofs.concatenate.concatenate_boolean.Given as goal

abbrev pub invariant-loop-array : goal.invariant-loop-array
invariant-loop-array l = record {
  items : l.items.items ≡ boolean_items l.first ++ flat_map (λ array. boolean_items array.now) (take l.array-index l.others);
}
