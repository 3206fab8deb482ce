use Rattle.std.proofs.Common.{◌≡◌, ℕ, ◌+◌, ◌<◌, false, length, get_or}
use Rattle.arrow2_packed_bits.proofs.from_fn.block_of.Given as goal

abbrev pub invariant-loop-k : goal.invariant-loop-k
invariant-loop-k g l = record {
  size : length l.block ≡ 64;
  done : (k : ℕ) → k < l.k → goal.F-post g l.f (l.start + k) (get_or l.block k false);
}
