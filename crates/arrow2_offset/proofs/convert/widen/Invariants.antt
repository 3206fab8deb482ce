use Rattle.std.proofs.Common.{◌≡◌, length, vec_len, take, vec_capacity}
use Rattle.arrow2_offset.proofs.convert.widen.Given as goal

abbrev pub invariant-loop-i : goal.invariant-loop-i
invariant-loop-i l = record {
  items : l.wide.items ≡ take l.i l.fn.offsets;
  count : vec_len l.wide ≡ l.i;
  spare : vec_capacity l.wide ≡ length l.fn.offsets;
}
