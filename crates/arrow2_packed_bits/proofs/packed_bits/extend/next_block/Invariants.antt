use Rattle.std.proofs.Common.{◌≡◌, ◌+◌, ◌*◌, ◌≤◌, ◌++◌, take, length}
use Rattle.arrow2_model.specs.Lists.{bits, full_words}
use Rattle.arrow2_packed_bits.proofs.packed_bits.extend.next_block.Given as goal

abbrev pub invariant-loop-i : goal.invariant-loop-i
invariant-loop-i l = record {
  size : length l.block ≡ 64;
  items : l.fn.chunks.items ≡ bits (take (8 * l.i) l.block) ++ l.chunks.items;
  left : 8 ≤ l.i + length (full_words 64 l.chunks.items);
}
