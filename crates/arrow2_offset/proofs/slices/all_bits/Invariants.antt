use Rattle.std.proofs.Common.{◌*◌, ◌≤◌}
use Rattle.arrow2_offset.specs.Offsets.{offset_at}
use Rattle.arrow2_offset.proofs.slices.all_bits.Given as goal

abbrev pub invariant-loop-length : goal.invariant-loop-length
invariant-loop-length l = record {
  most : offset_at 0 l.lengths l.length-index ≤ l.length-index * l.bits;
}
