use Rattle.std.proofs.Common.{ℕ, ◌<◌, map, pos, ◌≤ℤ◌, slice_index_or}
use Rattle.arrow2_ffi.proofs.inside.first_past.Given as goal

abbrev pub invariant-loop-index : goal.invariant-loop-index
invariant-loop-index g l = (k : ℕ) → k < l.index → slice_index_or (map g.O.Number.value l.offsets) k (pos 0) ≤ℤ pos l.items
