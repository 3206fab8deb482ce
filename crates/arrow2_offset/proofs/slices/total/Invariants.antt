use Rattle.std.proofs.Common.{◌≡◌, ◌+◌, ◌*◌, ◌^◌, ◌≤◌, ◌-◌}
use Rattle.arrow2_offset.specs.Offsets.{offset_at}
use Rattle.arrow2_offset.proofs.slices.total.Given as goal

abbrev pub invariant-loop-length : goal.invariant-loop-length
invariant-loop-length l = record {
  sum : l.sum ≡ offset_at l.fn.start l.lengths l.length-index;
  few : l.sum ≤ (l.length-index + 1) * (2 ^ 64 - 1);
}
