use Rattle.std.proofs.Common.{◌≡◌, ℕ, ◌+◌, ◌<◌, ◌≤◌, ◌↔◌, length, map, max, true, pos, ◌≤ℤ◌, slice_index_or}
use Rattle.arrow2_offset.proofs.check.is_rising.Given as goal

abbrev pub invariant-loop-i : goal.invariant-loop-i
invariant-loop-i g l = record {
  bound : l.i ≤ max 1 (length l.offsets);
  so_far : (l.rising ≡ true) ↔ ((k : ℕ) → k + 1 < l.i → slice_index_or (map g.O.Number.value l.offsets) k (pos 0) ≤ℤ slice_index_or (map g.O.Number.value l.offsets) (k + 1) (pos 0));
}
