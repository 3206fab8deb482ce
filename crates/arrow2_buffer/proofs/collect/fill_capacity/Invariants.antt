use Rattle.std.proofs.Common.{◌≡◌, ◌≤◌}
use Rattle.std.specs.Iterator.{Yields, IsFinite, size}
use Rattle.arrow2_buffer.proofs.collect.fill_capacity.Given as goal

abbrev pub invariant-loop-items : goal.invariant-loop-items
invariant-loop-items g l = record {
  can : g.I.Iterator.can_next l.source;
  ends : IsFinite (g.I.Iterator.remaining l.source);
  nearer : size (g.I.Iterator.remaining l.source) ≤ size (g.I.Iterator.remaining l.fn.source);
  took : (it : g.row.I.Denot) → Yields g.I.Iterator.next_gives it l.fn.items.items l.fn.source → Yields g.I.Iterator.next_gives it l.items.items l.source;
}

abbrev pub decreases-loop-items : goal.decreases-loop-items
decreases-loop-items g l = size (g.I.Iterator.remaining l.source)
