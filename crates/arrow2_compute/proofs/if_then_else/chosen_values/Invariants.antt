use Rattle.std.proofs.Common.{◌≡◌, ◌≤◌, length, take, vec_len, vec_capacity}
use Rattle.arrow2_model.specs.Lists.{items_of}
use Rattle.arrow2_walks.specs.Selections.{choice}
use Rattle.arrow2_compute.proofs.if_then_else.chosen_values.Given as goal

abbrev pub invariant-loop-position : goal.invariant-loop-position
invariant-loop-position g l = record {
  values : l.values.items ≡ choice (take l.position (items_of l.mask)) (take l.position l.lhs) (take l.position l.rhs);
  len : vec_len l.values ≡ l.position;
  spare : length (items_of l.mask) ≤ vec_capacity l.values;
}
