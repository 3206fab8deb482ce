use Rattle.std.proofs.Common.{◌+◌, ◌<◌, ◌^◌, List, Option, None, length, take, get_or, subst, sym, ◌∙◌, arith, length-take, take_all}
use Rattle.std.specs.List.{AllZip}
use Rattle.std.proofs.lemmas.Grind.{common_steps}
use Rattle.arrow2_primitive.specs.Primitive.{primitive_items}
use Rattle.arrow2_numeric.specs.Casts.{IsCast}
use Rattle.arrow2_numeric.proofs.Casts.{length-zip, zip-more, if-ok}
use Rattle.arrow2_numeric.proofs.cast.primitive_to_primitive.Goals as goal

pub loop-index-preserved : goal.loop-index-preserved
loop-index-preserved g c =
    let R = IsCast g.I.Number.value g.O.Number.value g.O.Number.fits in
    let items = primitive_items c.args.array.now in
    let index = c.loop-index.index in
    let before = c.loop-index.invariant in
    let less : index < length items = omega (arith, c.loop-index-test.true, c.len-index-end.ensures.items) in
    let made : R (get_or items index None) c.cast_item.result = subst (λ (o : Option _). R o c.cast_item.result) c.get.ensures c.cast_item.ensures in
    record {
      items = subst (λ (l : List (Option _)). AllZip R (take (index + 1) items) l) (sym c.in_ok-push.ensures.ok) (zip-more R items c.loop-index.numbers.items index None c.cast_item.result less before.items made);
      data_type = c.push.ensures.data_type ∙ before.data_type;
    }

-- no more was pushed than there is, which a usize counts
pub returns-in_err-push-clause-only : goal.returns-in_err-push-clause-only
returns-in_err-push-clause-only g c =
    let items = primitive_items c.args.array.now in
    let index = c.loop-index.index in
    let few = length-zip (IsCast g.I.Number.value g.O.Number.value g.O.Number.fits) (take index items) c.loop-index.numbers.items c.loop-index.invariant.items in
    let counted : length c.loop-index.numbers.items + 1 < 2 ^ 64 = omega (arith, few, length-take index items, c.loop-index-test.true, c.len-index-end.ensures.items) in
    grind (arith, common_steps, counted)

pub returns-clause-items : goal.returns-clause-items
returns-clause-items g c =
    let R = IsCast g.I.Number.value g.O.Number.value g.O.Number.fits in
    let items = primitive_items c.args.array.now in
    let all = take_all c.loop-index.index items (omega (arith, c.loop-index-test.false, c.len-index-end.ensures.items)) in
    let done : AllZip R items c.loop-index.numbers.items = subst (λ (l : List (Option _)). AllZip R l c.loop-index.numbers.items) all c.loop-index.invariant.items in
    if-ok c.freeze.result (λ a e. subst (λ (l : List (Option _)). AllZip R items l) (sym e) done) c.freeze.ensures.items
