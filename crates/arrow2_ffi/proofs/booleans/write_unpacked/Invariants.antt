use Rattle.std.proofs.Common.{◌≡◌, ℕ, ◌<◌, ◌+◌, length, false, get_or}
use Rattle.arrow2_model.specs.Lists.{bits}
use Rattle.arrow2_ffi.proofs.booleans.write_unpacked.Given as goal

abbrev pub invariant-loop-i : goal.invariant-loop-i
invariant-loop-i l = record {
  exact : length l.out ≡ length l.fn.out;
  done : (k : ℕ) → k < l.i → get_or l.out k false ≡ get_or (bits l.bytes) (l.offset + k) false;
}
