use Rattle.std.proofs.Common.{◌≡◌, ◌+◌, ◌≤◌, length, take}
use Rattle.std.specs.Iterator.{Yields, IsFinite, size}
use Rattle.arrow2_packed_bits.proofs.packing.fill.Given as goal

abbrev pub invariant-loop-k : goal.invariant-loop-k
invariant-loop-k g l = record {
  wide : length l.block ≡ 64;
  can : g.I.Iterator.can_next l.items;
  ends : IsFinite (g.I.Iterator.remaining l.items);
  fewer : l.k + size (g.I.Iterator.remaining l.items) ≤ size (g.I.Iterator.remaining l.fn.items);
  took : Yields g.I.Iterator.next_gives l.fn.items (take l.k l.block) l.items;
}
