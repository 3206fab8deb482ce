use Rattle.std.proofs.Common.{◌≡◌, ◌+◌, ◌≤◌, ◌++◌, length, map, sum}
use Rattle.arrow2_offset.specs.Offsets.{slots, last_of_growing, lengths_of}
use Rattle.arrow2_offset.proofs.mutable.Offsets.append.Given as goal

abbrev pub invariant-loop-length : goal.invariant-loop-length
invariant-loop-length g l = record {
  start : l.self.start ≡ l.fn.self.start;
  grown : l.self.lengths ++ l.length-iterator ≡ l.fn.self.lengths ++ lengths_of (map g.O.Number.value l.offsets);
  spare : slots l.self + length l.length-iterator ≤ l.self.capacity;
  capacity : l.fn.self.capacity ≤ l.self.capacity;
  fits : last_of_growing l.self + sum l.length-iterator ≤ g.O.OffsetNumber.MAX;
}
