use Rattle.std.proofs.Common.{◌≡◌}
use Rattle.std.specs.Iterator.{Yields, IsFinite, size}
use Rattle.arrow2_buffer.proofs.collect.collect_items.Given as goal

abbrev pub invariant-loop-item : goal.invariant-loop-item
invariant-loop-item g l = record {
  can : g.I.Iterator.can_next l.source;
  ends : IsFinite (g.I.Iterator.remaining l.source);
  took : Yields g.I.Iterator.next_gives l.fn.source l.items.items l.source;
}

abbrev pub decreases-loop-item : goal.decreases-loop-item
decreases-loop-item g l = size (g.I.Iterator.remaining l.source)
