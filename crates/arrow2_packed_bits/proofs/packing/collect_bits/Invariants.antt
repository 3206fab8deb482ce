use Rattle.std.proofs.Common.{◌≡◌, ◌*◌, ◌%◌, ◌^◌, ◌<◌, length}
use Rattle.std.specs.Iterator.{Yields, IsFinite, size}
use Rattle.arrow2_model.specs.Lists.{bits}
use Rattle.arrow2_packed_bits.proofs.packing.collect_bits.Given as goal

abbrev pub invariant-words : goal.invariant-words
invariant-words g l = record {
  wide : length l.block ≡ 64;
  whole : length l.bytes.items % 8 ≡ 0;
  fits : 8 * length l.bytes.items < 2 ^ 64;
  can : g.I.Iterator.can_next l.items;
  ends : IsFinite (g.I.Iterator.remaining l.items);
  took : Yields g.I.Iterator.next_gives l.fn.items (bits l.bytes.items) l.items;
}

abbrev pub decreases-words : goal.decreases-words
decreases-words g l = size (g.I.Iterator.remaining l.items)
