use Rattle.std.proofs.Common.{◌≡◌, ◌≤◌, ◌<◌, ◌%◌, ◌++◌, length}
use Rattle.arrow2_packed_bits.proofs.packed_bits.PackedBits.push_blocks.Given as goal

abbrev pub invariant-loop-self : goal.invariant-loop-self
invariant-loop-self l = record {
  whole : 0 < length l.chunks.items → length l.self.items % 8 ≡ 0;
  items : l.self.items ++ l.chunks.items ≡ l.fn.self.items ++ l.fn.chunks.items;
  capacity : l.fn.self.capacity ≤ l.self.capacity;
}

abbrev pub decreases-loop-self : goal.decreases-loop-self
decreases-loop-self l = length l.chunks.items
