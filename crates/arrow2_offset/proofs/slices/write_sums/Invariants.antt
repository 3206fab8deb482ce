use Rattle.std.proofs.Common.{◌≡◌, ℕ, ◌<◌, ◌+◌, length, map, get_or, pos}
use Rattle.arrow2_offset.specs.Offsets.{offset_at}
use Rattle.arrow2_offset.proofs.slices.write_sums.Given as goal

abbrev pub invariant-loop-i : goal.invariant-loop-i
invariant-loop-i g l = record {
  exact : length l.offsets ≡ length l.lengths + 1;
  sum : l.sum ≡ offset_at l.fn.start l.lengths l.i;
  done : (k : ℕ) → k < l.i + 1 → get_or (map g.O.Number.value l.offsets) k (pos 0) ≡ pos (offset_at l.fn.start l.lengths k);
}
