use Rattle.std.proofs.Common.{◌≡◌, ◌≤◌, length, take, vec_len, vec_capacity}
use Rattle.std.specs.List.{AllZip}
use Rattle.arrow2_model.specs.Lists.{buffer_items}
use Rattle.arrow2_compute.specs.Take.{IsItemAt}
use Rattle.arrow2_compute.proofs.take.values_at.Given as goal

abbrev pub invariant-loop-index : goal.invariant-loop-index
invariant-loop-index g l = record {
  taken : AllZip (IsItemAt (buffer_items l.fn.values)) (take l.index-index l.indices) l.taken.items;
  len : vec_len l.taken ≡ l.index-index;
  spare : length l.indices ≤ vec_capacity l.taken;
}
