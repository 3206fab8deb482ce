use Rattle.std.proofs.Common.{◌≡◌, List, Bool, false, not, length, map, replicate, ap, sym, subst, ◌∙◌, IfOk}
use Rattle.std.proofs.lemmas.Result.{MatchResult-weaker}
use Rattle.arrow2_model.specs.Lists.{items_of}
use Rattle.arrow2_validity.specs.OptionalValidity.{valid_items}
use Rattle.arrow2_compute.proofs.Masks.{each-not, not-true}
use Rattle.arrow2_compute.proofs.boolean.nulls_of.Goals as goal

pub returns-in-Some-clause-items : goal.returns-in-Some-clause-items
returns-in-Some-clause-items c = MatchResult-weaker c.not.result c.not.ensures (λ b e. e.1 ∙ (each-not (items_of c.in-Some.bitmap.now) ∙ ap (map not) c.in-Some.ensures.items)) (λ _ _. tt)

pub returns-in-None-clause-items : goal.returns-in-None-clause-items
returns-in-None-clause-items c =
    let valid = valid_items c.args.validity.now in
    let all : replicate c.len.result false ≡ map not valid = ap (λ n. replicate n false) c.len.ensures.items ∙ (not-true (length valid) ∙ ap (map not) (sym c.in-None.ensures.items)) in
    subst (λ (z : List Bool). IfOk c.new_zeroed.result (λ b. items_of b ≡ z)) all c.new_zeroed.ensures.items
