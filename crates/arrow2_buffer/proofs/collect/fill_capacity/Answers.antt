use Rattle.std.proofs.Common.{◌∙◌, List, subst, sym, arith}
use Rattle.std.proofs.iter.Next.{Yields-more}
use Rattle.std.specs.Iterator.{Yields}
use Rattle.arrow2_buffer.proofs.collect.fill_capacity.Goals as goal

-- one item more came, and one more is appended
pub loop-items-preserved : goal.loop-items-preserved
loop-items-preserved g c =
    let before = c.loop-items.invariant in
    let goes = c.in-Some.ensures.goes.on before.ends in
    record {
      can = goes.0;
      ends = goes.1;
      nearer = omega (arith, before.nearer, goes.2);
      took = λ it h. subst (λ (xs : List g.row.T.Denot). Yields g.I.Iterator.next_gives it xs c.next.new.self) (sym c.push_reserved.ensures.items)
          (Yields-more g.I.Iterator.next_gives it c.loop-items.items.items c.loop-items.source c.in-Some.item c.next.new.self (before.took it h) c.in-Some.ensures.steps);
    }
