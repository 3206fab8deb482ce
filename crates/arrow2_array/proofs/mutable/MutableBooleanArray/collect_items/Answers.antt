use Rattle.std.proofs.Common.{◌∙◌, sym}
use Rattle.std.proofs.iter.runs.Made.{run_of_exit}
use Rattle.arrow2_array.proofs.mutable.MutableBooleanArray.collect_items.Goals as goal

pub returns-clause-items : goal.returns-clause-items
returns-clause-items g c =
    let it = c.into_iter-item-iterator in
    let ran = run_of_exit g.I.Iterator.next_gives it.result c.loop-item.yielded c.loop-item.item-iterator c.loop-item.yielded_by c.next.new.self c.in-None.ensures.steps in
    (ran.0, ran.1 ∙ it.ensures.into_iter_gives, ran.2, c.loop-item.invariant ∙ sym ran.3.0)
