use Rattle.std.proofs.Common.{◌≡◌, ◌≤◌, ◌+◌, ◌*◌, ◌++◌, length, drop}
use Rattle.arrow2_packed_bits.proofs.packed_bits.PackedBits.push_bools.Given as goal

abbrev pub invariant-loop-block : goal.invariant-loop-block
invariant-loop-block l = record {
  size : length l.self.items ≡ length l.fn.self.items + 64 * l.block-index;
  items : l.self.items ++ drop (64 * l.block-index) l.items ≡ l.fn.self.items ++ l.items;
  capacity : l.fn.self.capacity ≤ l.self.capacity;
}
