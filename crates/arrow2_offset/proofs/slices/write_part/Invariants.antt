use Rattle.std.proofs.Common.{◌≡◌, ℕ, ◌<◌, ◌-◌, length, map, get_or, pos}
use Rattle.arrow2_offset.specs.Offsets.{lengths_of, offset_at}
use Rattle.arrow2_model.specs.Lists.{part}
use Rattle.arrow2_offset.proofs.slices.write_part.Given as goal

abbrev pub invariant-loop-i : goal.invariant-loop-i
invariant-loop-i g l = record {
  exact : length l.out ≡ length l.fn.out;
  done : (k : ℕ) → k < l.i → get_or (map g.O.Number.value l.out) k (pos 0) ≡ pos (offset_at 0 (part (lengths_of (map g.O.Number.value l.offsets)) l.from (length l.fn.out - 1)) k);
}
