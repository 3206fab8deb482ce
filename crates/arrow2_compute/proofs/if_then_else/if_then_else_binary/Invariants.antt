use Rattle.std.proofs.Common.{◌≡◌, ◌≤◌, take, sum_by}
use Rattle.arrow2_model.specs.Lists.{items_of}
use Rattle.arrow2_text.specs.Binary.{binary_items}
use Rattle.arrow2_walks.specs.Selections.{choice}
use Rattle.arrow2_compute.specs.Sizes.{item_bytes}
use Rattle.arrow2_compute.proofs.if_then_else.if_then_else_binary.Given as goal

abbrev pub invariant-loop-position : goal.invariant-loop-position
invariant-loop-position g l = record {
  items : l.items.items ≡ choice (take l.position (items_of l.mask)) (take l.position (binary_items l.lhs)) (take l.position (binary_items l.rhs));
  bytes : l.items.bytes ≡ sum_by item_bytes l.items.items;
  fits : l.items.bytes ≤ g.O.OffsetNumber.MAX;
  data_type : l.items.data_type ≡ l.lhs.data_type;
}
