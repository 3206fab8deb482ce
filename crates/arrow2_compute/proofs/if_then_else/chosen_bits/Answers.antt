use Rattle.std.proofs.Common.{◌≡◌, ◌∙◌, List, [], ◌∷◌, Bool, ap, subst, IfOk}
use Rattle.arrow2_model.specs.Lists.{items_of}
use Rattle.arrow2_model.specs.Tables.{each}
use Rattle.arrow2_walks.specs.Selections.{choice}
use Rattle.arrow2_compute.proofs.Choices.{chosen-bits}
use Rattle.arrow2_compute.proofs.if_then_else.chosen_bits.Goals as goal

pub returns-clause-items : goal.returns-clause-items
returns-clause-items c =
    let ms = items_of c.args.mask.now in
    let xs = items_of c.args.lhs.now in
    let ys = items_of c.args.rhs.now in
    let right = items_of c.in_ok-right.right in
    let all : each 14 (items_of c.in_ok-left.left ∷ right ∷ []) ≡ choice ms xs ys = ap (λ l. each 14 (l ∷ right ∷ [])) c.in_ok-left.ensures.items
    ∙ (ap (λ r. each 14 (each 8 (ms ∷ xs ∷ []) ∷ r ∷ [])) c.in_ok-right.ensures.items ∙ chosen-bits ms xs ys c.requires.left c.requires.right) in
    subst (λ (z : List Bool). IfOk c.or.result (λ b. items_of b ≡ z)) all c.or.ensures.items
