use Rattle.std.proofs.Common.{◌≡◌, ℕ, ◌<◌, length, get_or, pos}
use Rattle.arrow2_offset.proofs.widths.write_narrow.Given as goal

abbrev pub invariant-loop-i : goal.invariant-loop-i
invariant-loop-i l = record {
  exact : length l.out ≡ length l.offsets;
  done : (k : ℕ) → k < l.i → get_or l.out k (pos 0) ≡ get_or l.offsets k (pos 0);
}
