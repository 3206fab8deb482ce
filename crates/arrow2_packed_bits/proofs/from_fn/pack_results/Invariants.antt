use Rattle.std.proofs.Common.{◌≡◌, ℕ, ◌*◌, ◌<◌, false, length, get_or}
use Rattle.arrow2_model.specs.Lists.{bits}
use Rattle.arrow2_packed_bits.proofs.from_fn.pack_results.Given as goal

abbrev pub invariant-loop-block : goal.invariant-loop-block
invariant-loop-block g l = record {
  size : length l.bytes.items ≡ 8 * l.block;
  done : (k : ℕ) → k < 64 * l.block → goal.F-post g l.f k (get_or (bits l.bytes.items) k false);
}
