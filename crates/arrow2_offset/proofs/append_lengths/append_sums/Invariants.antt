use Rattle.std.proofs.Common.{◌≡◌, ◌+◌, ◌*◌, ◌^◌, ◌<◌, ◌≤◌, length, map, sum, take, vec_capacity}
use Rattle.arrow2_offset.specs.Offsets.{last_of}
use Rattle.arrow2_offset.proofs.Appending.{AreLengthened}
use Rattle.arrow2_offset.proofs.append_lengths.append_sums.Given as goal

abbrev pub invariant-loop-length : goal.invariant-loop-length
invariant-loop-length g l = record {
  last : l.last ≡ last_of (map g.O.Number.value l.fn.offsets.items) + sum l.yielded;
  grown : l.last ≤ g.O.OffsetNumber.MAX → AreLengthened l.yielded (map g.O.Number.value l.fn.offsets.items) (map g.O.Number.value l.offsets.items);
  front : take (length l.fn.offsets.items) l.offsets.items ≡ l.fn.offsets.items;
  more : length l.offsets.items ≡ length l.fn.offsets.items + length l.yielded;
  spare : vec_capacity l.fn.offsets ≤ vec_capacity l.offsets;
  small : l.last < length l.offsets.items * 2 ^ 64;
}
