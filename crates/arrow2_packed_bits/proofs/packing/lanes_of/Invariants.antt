use Rattle.std.proofs.Common.{◌≡◌, ℕ, ◌<◌, false, length, get_or}
use Rattle.std.specs.Int.{from_bool}
use Rattle.arrow2_packed_bits.proofs.packing.lanes_of.Given as goal

abbrev pub invariant-loop-i : goal.invariant-loop-i
invariant-loop-i l = record {
  size : length l.lanes ≡ 64;
  done : (k : ℕ) → k < l.i → get_or l.lanes k 0 ≡ from_bool (get_or l.items k false);
}
