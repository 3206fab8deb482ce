use Rattle.std.proofs.Common.{◌∙◌, ◌++◌, [], ◌∷◌, List, refl, subst, sym, arith, ap}
use Rattle.std.proofs.iter.Next.{Yields-more}
use Rattle.std.proofs.iter.runs.Made.{run_of_exit}
use Rattle.std.specs.Iterator.{Yields}
use Rattle.arrow2_buffer.proofs.collect.collect_items.Goals as goal

pub loop-item-init : goal.loop-item-init
loop-item-init g c = record {
  can = c.requires.can;
  ends = c.requires.ends;
  took = subst (λ (xs : List g.row.T.Denot). Yields g.I.Iterator.next_gives c.args.source xs c.args.source) (sym c.new-items.ensures.items) refl;
}

-- the source ended
pub returns-in_default : goal.returns-in_default
returns-in_default g c =
    let ran = run_of_exit g.I.Iterator.next_gives c.args.source c.loop-item.items.items c.loop-item.source c.loop-item.invariant.took c.next.new.self c.in_default.ensures.steps in
    (ran.0, ran.1, ran.2, sym ran.3.0)

-- the source ended within the capacity
pub returns-then-not-went_on : goal.returns-then-not-went_on
returns-then-not-went_on g c =
    let one = Yields-more g.I.Iterator.next_gives c.args.source c.loop-item.items.items c.loop-item.source c.in-Some.item c.next.new.self c.loop-item.invariant.took c.in-Some.ensures.steps in
    let held = c.push_reserved.ensures.items ∙ ap (λ (xs : List g.row.T.Denot). xs ++ c.in-Some.item ∷ []) c.grow_capacity.ensures.items in
    let came = subst (λ (xs : List g.row.T.Denot). Yields g.I.Iterator.next_gives c.args.source xs c.next.new.self) (sym held) one in
    let ended = c.fill_capacity-full.ensures.ended c.if-not-went_on.true c.args.source came in
    let ran = run_of_exit g.I.Iterator.next_gives c.args.source c.fill_capacity-full.result.0.items ended.0 ended.1 c.fill_capacity-full.new.source ended.2 in
    (ran.0, ran.1, ran.2, sym ran.3.0)

pub loop-item-preserved : goal.loop-item-preserved
loop-item-preserved g c =
    let one = Yields-more g.I.Iterator.next_gives c.args.source c.loop-item.items.items c.loop-item.source c.in-Some.item c.next.new.self c.loop-item.invariant.took c.in-Some.ensures.steps in
    let held = c.push_reserved.ensures.items ∙ ap (λ (xs : List g.row.T.Denot). xs ++ c.in-Some.item ∷ []) c.grow_capacity.ensures.items in
    let came = subst (λ (xs : List g.row.T.Denot). Yields g.I.Iterator.next_gives c.args.source xs c.next.new.self) (sym held) one in
    record {
      can = c.fill_capacity-full.ensures.can c.if-not-went_on.false;
      ends = c.fill_capacity-full.ensures.ends c.if-not-went_on.false;
      took = c.fill_capacity-full.ensures.more c.if-not-went_on.false c.args.source came;
    }
