use Rattle.std.proofs.Common.{◌≡◌, ◌≤◌, ◌++◌, length}
use Rattle.arrow2_packed_bits.proofs.packed_bits.PackedBits.push_words.Given as goal

abbrev pub invariant-loop-word : goal.invariant-loop-word
invariant-loop-word l = record {
  items : l.self.items ++ l.chunks.items ≡ l.fn.self.items ++ l.fn.chunks.items;
  capacity : l.fn.self.capacity ≤ l.self.capacity;
}

abbrev pub decreases-loop-word : goal.decreases-loop-word
decreases-loop-word l = length l.chunks.items
