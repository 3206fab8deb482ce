use Rattle.std.proofs.Common.{◌∙◌, List, Bool, subst, sym, arith, take}
use Rattle.std.proofs.lemmas.List.{length-set, take_more_set}
use Rattle.std.proofs.iter.Next.{Yields-more}
use Rattle.std.specs.Iterator.{Yields}
use Rattle.arrow2_packed_bits.proofs.packing.fill.Goals as goal

pub loop-k-preserved : goal.loop-k-preserved
loop-k-preserved g c =
    let before = c.loop-k.invariant in
    let goes = c.in-Some.ensures.goes.on before.ends in
    let one = take_more_set c.loop-k.block c.loop-k.k c.in-Some.item (omega (arith, before.wide, c.loop-k-test.true)) in
    record {
      wide = length-set c.loop-k.block c.loop-k.k c.in-Some.item ∙ before.wide;
      can = goes.0;
      ends = goes.1;
      fewer = omega (arith, before.fewer, goes.2);
      took = subst (λ (xs : List Bool). Yields g.I.Iterator.next_gives c.args.items.now xs c.next.new.self) (sym one)
          (Yields-more g.I.Iterator.next_gives c.args.items.now (take c.loop-k.k c.loop-k.block) c.loop-k.items c.in-Some.item c.next.new.self before.took c.in-Some.ensures.steps);
    }
