use Rattle.std.proofs.Common.{◌≡◌, ◌∙◌, ◌-◌, ◌∷◌, ◌++◌, Some, ap, sym, drop, length, arith}
use Rattle.std.proofs.lemmas.List.{take_all, drop_all, length-drop}
use Rattle.arrow2_numeric.specs.Aggregates.{best_from}
use Rattle.arrow2_numeric.proofs.Best.{best-halves}
use Rattle.arrow2_numeric.proofs.aggregate.best_of_halves.Goals as goal

pub returns : goal.returns
returns g c =
    let f = g.C.Choice.kept in
    let values = c.args.values.now in
    let front = c.in-Some-Some.front.now in
    let back = c.in-Some-Some.back.now in
    let best = c.loop-index.best in
    let other = c.loop-index.other in
    let index : c.loop-index.index ≡ length front = omega (arith, c.loop-index-test.false, c.loop-index.auto) in
    let whole : values ≡ c.in-Some-Some.first.now ∷ front ++ c.in-Some-Some.middle.now ∷ back = c.split_at.ensures.by_index.0
    ∙ (ap (λ l. l ++ c.split_at.result.1.now) c.in-Some-Some.ensures.cases.0 ∙ ap (λ l. c.in-Some-Some.first.now ∷ front ++ l) c.in-Some-Some.ensures'.cases.0) in
    let is-best : Some best ≡ best_from f (Some c.in-Some-Some.first.now) front = ap (best_from f (Some best)) (sym (drop_all c.loop-index.index front c.loop-index-test.false)) ∙ c.loop-index.invariant.front in
    let left = drop (length front) back in
    let is-other : best_from f (Some other) left ≡ best_from f (Some c.in-Some-Some.middle.now) back = ap (λ n. best_from f (Some other) (drop n back)) (sym index) ∙ c.loop-index.invariant.back in
    let rest = take_all (length back - length front) left (omega (arith, length-drop (length front) back)) in
    best-halves f c.requires.associative _ _ best other front back left values _ whole is-best is-other (c.best_of-2.ensures ∙ (ap (best_from f (Some c.of_two.result)) rest ∙ ap (λ v. best_from f (Some v) left) c.of_two.ensures))
