use Rattle.std.proofs.Common.{ℕ, ◌+◌, ◌<◌, ◌≤◌, length, map, max, pos, ◌≤ℤ◌, slice_index_or}
use Rattle.arrow2_ffi.proofs.inside.first_falling.Given as goal

abbrev pub invariant-loop-index : goal.invariant-loop-index
invariant-loop-index g l = record {
  bound : l.index ≤ max 1 (length l.offsets);
  before : (k : ℕ) → k + 1 < l.index → slice_index_or (map g.O.Number.value l.offsets) k (pos 0) ≤ℤ slice_index_or (map g.O.Number.value l.offsets) (k + 1) (pos 0);
}
