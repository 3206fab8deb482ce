use Rattle.std.proofs.Common.{◌≡◌, ◌+◌, ◌*◌}
use Rattle.arrow2_model.specs.Lists.{bits, part, falses}
use Rattle.arrow2_bits.proofs.counts.ones_in_blocks.Given as goal

abbrev pub invariant-loop-i : goal.invariant-loop-i
invariant-loop-i l = record {
  bytes : l.stored.bytes ≡ l.fn.stored.bytes;
  reads : l.stored.reads ≡ l.fn.stored.reads + (64 * l.i);
  counted : l.ones + falses (part (bits l.fn.stored.bytes) (8 * l.first) (8 * (64 * l.i))) ≡ 8 * (64 * l.i);
}
