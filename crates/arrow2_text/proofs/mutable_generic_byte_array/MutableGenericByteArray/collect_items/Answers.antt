use Rattle.std.proofs.Common.{◌∙◌, ◌+◌, ◌++◌, ◌∷◌, [], length, map, ap, sym, subst, Err}
use Rattle.std.specs.Option.{option_map_or}
use Rattle.std.proofs.iter.Next.{Yields-more}
use Rattle.std.proofs.iter.runs.Made.{run_of_exit}
use Rattle.std.specs.Iterator.{Yields}
use Rattle.arrow2_types.specs.declared.error.Error.TheVariants.{Overflow}
use Rattle.arrow2_text.specs.Growth.{bytes_of_items}
use Rattle.arrow2_text.proofs.CollectedItems.{bytes-collected, handed-on, items-collected, past-collected}
use Rattle.arrow2_text.proofs.mutable_generic_byte_array.MutableGenericByteArray.collect_items.Goals as goal

pub loop-item-preserved : goal.loop-item-preserved
loop-item-preserved g c =
    let kept = c.loop-item.invariant in
    let pushed = c.in_ok-push_bytes.ensures in
    let is = c.as_item.ensures.value in
    record {
      items = pushed.ok ∙ (ap (λ item. c.loop-item.array.items ++ item ∷ []) is ∙ items-collected g.S.AsItem.item c.loop-item.yielded c.in-Some.item kept.items);
      bytes = pushed.ok_bytes ∙ (ap (λ item. c.loop-item.array.bytes + option_map_or length item 0) is ∙ bytes-collected g.S.AsItem.item c.loop-item.yielded c.in-Some.item kept.bytes);
      data_type = pushed.data_type ∙ kept.data_type;
    }

pub returns-clause-items : goal.returns-clause-items
returns-clause-items g c =
    let it = c.into_iter-item-iterator in
    let ran = run_of_exit g.I.Iterator.next_gives it.result c.loop-item.yielded c.loop-item.item-iterator c.loop-item.yielded_by c.next.new.self c.in-None.ensures.steps in
    let kept = c.loop-item.invariant in
    let all = sym ran.3.0 in
    (ran.0, ran.1 ∙ it.ensures.into_iter_gives, ran.2, (kept.items ∙ ap (map g.S.AsItem.item) all, kept.bytes ∙ ap (λ items. bytes_of_items (map g.S.AsItem.item items)) all))

pub returns-in_err-push_bytes-clause-overflow : goal.returns-in_err-push_bytes-clause-overflow
returns-in_err-push_bytes-clause-overflow g c = λ is.
    let it = c.into_iter-item-iterator in
    let kept = c.loop-item.invariant in
    let all = c.loop-item.yielded ++ c.in-Some.item ∷ [] in
    let more = Yields-more g.I.Iterator.next_gives it.result c.loop-item.yielded c.loop-item.item-iterator c.in-Some.item c.next.new.self c.loop-item.yielded_by c.in-Some.ensures.steps in
    let past = c.in_err-push_bytes.ensures.overflow.0 (ap (λ e. Err e) (handed-on c.from_residual-in_err-push_bytes.result Overflow c.in_err-push_bytes.field-0.0 c.from_residual-in_err-push_bytes.ensures.1 is)) in
    (all, c.next.new.self, subst (λ s. Yields g.I.Iterator.next_gives s all c.next.new.self) it.ensures.into_iter_gives more, past-collected g.S.AsItem.item g.O.OffsetNumber.MAX c.loop-item.yielded c.in-Some.item kept.items kept.bytes (rw c.as_item.ensures.value at past))
