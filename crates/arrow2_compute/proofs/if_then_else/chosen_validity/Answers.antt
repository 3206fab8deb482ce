use Rattle.std.proofs.Common.{◌≡◌, ◌∙◌, [], ◌∷◌, true, length, replicate, refl, ap, sym}
use Rattle.arrow2_model.specs.Lists.{items_of}
use Rattle.arrow2_model.specs.Tables.{each}
use Rattle.arrow2_validity.specs.OptionalValidity.{valid_items}
use Rattle.arrow2_walks.specs.Selections.{choice}
use Rattle.arrow2_compute.proofs.Choices.{chosen-left, chosen-right, chosen-none}
use Rattle.arrow2_compute.proofs.if_then_else.chosen_validity.Goals as goal

-- an array without a bitmap has no null
pub returns-in_ok-binary_table-in-Some-None-clause-items : goal.returns-in_ok-binary_table-in-Some-None-clause-items
returns-in_ok-binary_table-in-Some-None-clause-items c =
    let ms = items_of c.args.mask.now in
    let vs = valid_items c.args.lhs.now in
    let arm = c.in-Some-None in
    c.by_bits-in-Some-None.ensures.items ∙ (c.in_ok-binary_table-in-Some-None.ensures.items ∙ (ap (λ xs. each 13 (ms ∷ xs ∷ [])) arm.ensures.items
    ∙ (chosen-left ms vs (length (valid_items c.args.rhs.now)) c.requires.left c.requires.right ∙ ap (choice ms vs) (sym arm.ensures'.items))))

pub returns-in_ok-or-in-None-Some-clause-items : goal.returns-in_ok-or-in-None-Some-clause-items
returns-in_ok-or-in-None-Some-clause-items c =
    let ms = items_of c.args.mask.now in
    let ws = valid_items c.args.rhs.now in
    let arm = c.in-None-Some in
    c.by_bits-in-None-Some.ensures.items ∙ (c.in_ok-or-in-None-Some.ensures.items ∙ (ap (λ ys. each 14 (ms ∷ ys ∷ [])) arm.ensures'.items
    ∙ (chosen-right ms ws (length (valid_items c.args.lhs.now)) c.requires.right c.requires.left ∙ ap (λ l. choice ms l ws) (sym arm.ensures.items))))

pub returns-in-None-None-clause-items : goal.returns-in-None-None-clause-items
returns-in-None-None-clause-items c =
    let ms = items_of c.args.mask.now in
    let arm = c.in-None-None in
    let left : valid_items c.args.lhs.now ≡ replicate (length ms) true = arm.ensures.items ∙ ap (λ k. replicate k true) (sym c.requires.left) in
    let right : valid_items c.args.rhs.now ≡ replicate (length ms) true = arm.ensures'.items ∙ ap (λ k. replicate k true) (sym c.requires.right) in
    c.all_valid.ensures.items ∙ (ap (λ k. replicate k true) c.len.ensures.items ∙ (sym (chosen-none ms (length ms) refl)
    ∙ (ap (λ l. choice ms l (replicate (length ms) true)) (sym left) ∙ ap (choice ms (valid_items c.args.lhs.now)) (sym right))))
