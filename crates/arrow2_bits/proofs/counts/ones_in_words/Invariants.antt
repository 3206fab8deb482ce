use Rattle.std.proofs.Common.{◌≡◌, ◌+◌, ◌*◌}
use Rattle.arrow2_model.specs.Lists.{bits, part, falses}
use Rattle.arrow2_bits.proofs.counts.ones_in_words.Given as goal

abbrev pub invariant-loop-i : goal.invariant-loop-i
invariant-loop-i g l = record {
  bytes : l.stored.bytes ≡ l.fn.stored.bytes;
  reads : l.stored.reads ≡ l.fn.stored.reads + (g.row.N * l.i);
  counted : l.ones + falses (part (bits l.fn.stored.bytes) (8 * l.first) (8 * (g.row.N * l.i))) ≡ 8 * (g.row.N * l.i);
}
