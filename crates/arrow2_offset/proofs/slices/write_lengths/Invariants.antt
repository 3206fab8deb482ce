use Rattle.std.proofs.Common.{◌≡◌, ℕ, ◌<◌, ◌+◌, length, map, get_or}
use Rattle.arrow2_offset.specs.Offsets.{lengths_of}
use Rattle.arrow2_offset.proofs.slices.write_lengths.Given as goal

abbrev pub invariant-loop-i : goal.invariant-loop-i
invariant-loop-i g l = record {
  exact : length l.offsets ≡ length l.lengths + 1;
  done : (k : ℕ) → k < l.i → get_or l.lengths k 0 ≡ get_or (lengths_of (map g.O.Number.value l.offsets)) k 0;
}
