use Rattle.std.proofs.Common.{◌<◌, ℕ, List, Option, None, length, get_or, subst, sym, arith, All, take_all}
use Rattle.std.proofs.lemmas.List.Elements.{All-more}
use Rattle.arrow2_types.specs.Failures.{IsInvalidArgumentOrOutOfMemory}
use Rattle.arrow2_primitive.specs.Primitive.{primitive_items}
use Rattle.arrow2_numeric.specs.Casts.{Fits, not_fitting_message}
use Rattle.arrow2_numeric.proofs.Casts.{first-misfit}
use Rattle.arrow2_numeric.proofs.cast.check_fits.Goals as goal

pub loop-index-preserved : goal.loop-index-preserved
loop-index-preserved g c =
    let P = Fits g.I.Number.value g.O.Number.fits in
    let items = primitive_items c.args.array.now in
    let less : c.loop-index.index < length items = omega (arith, c.loop-index-test.true, c.len-index-end.ensures.items) in
    let here : P c.get.result = c.if-not-item_fits.ensures in
    All-more P items c.loop-index.index None less c.loop-index.invariant (subst (λ (o : Option _). P o) c.get.ensures here)

-- each item before it fits, so it is the first
pub returns-then-not-item_fits-clause-rejected : goal.returns-then-not-item_fits-clause-rejected
returns-then-not-item_fits-clause-rejected g c other first =
    let P = Fits g.I.Number.value g.O.Number.fits in
    let items = primitive_items c.args.array.now in
    let index = c.loop-index.index in
    let less : index < length items = omega (arith, c.loop-index-test.true, c.len-index-end.ensures.items) in
    let here : ¬ (P c.get.result) = c.if-not-item_fits.ensures in
    let this : ¬ (P (get_or items index None)) = subst (λ (o : Option _). ¬ (P o)) c.get.ensures here in
    let same = first-misfit g.I.Number.value g.O.Number.fits items index other less c.loop-index.invariant this first in
    subst (λ (k : ℕ). IsInvalidArgumentOrOutOfMemory c.misfit.result (not_fitting_message k)) (sym same) c.misfit.ensures

pub returns-clause-accepted : goal.returns-clause-accepted
returns-clause-accepted g c =
    let P = Fits g.I.Number.value g.O.Number.fits in
    let items = primitive_items c.args.array.now in
    let all = take_all c.loop-index.index items (omega (arith, c.loop-index-test.false, c.len-index-end.ensures.items)) in
    subst (λ (l : List (Option _)). All P l) all c.loop-index.invariant
