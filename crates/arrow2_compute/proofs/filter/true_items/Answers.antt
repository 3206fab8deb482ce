use Rattle.std.proofs.Common.{◌≡◌, List, [], ◌∷◌, Bool, true, length, map, replicate, ap, sym, subst, ◌∙◌, arith, rules, IfOk}
use Rattle.arrow2_array.specs.Items.{boolean_items}
use Rattle.arrow2_model.specs.Lists.{items_of}
use Rattle.arrow2_model.specs.Tables.{each}
use Rattle.arrow2_validity.specs.OptionalValidity.{valid_items}
use Rattle.arrow2_walks.specs.Zipped.{zipped}
use Rattle.arrow2_compute.specs.Masks.{is_true}
use Rattle.arrow2_compute.proofs.Masks.{all-there, masked}
use Rattle.arrow2_compute.proofs.filter.true_items.Goals as goal

pub returns-in-Some-clause-items : goal.returns-in-Some-clause-items
returns-in-Some-clause-items c =
    let xs = items_of c.values.result.now in
    let vs = items_of c.in-Some.bitmap.now in
    let same_lengths : length xs ≡ length vs = omega (arith, c.values.ensures.len, c.optional_validity.ensures.len, ap length c.in-Some.ensures.items) in
    let slots : zipped xs vs ≡ boolean_items c.args.mask.now = ap (λ b. zipped (items_of b) vs) c.values.ensures.value ∙ (ap (zipped (items_of c.args.mask.now.values)) c.in-Some.ensures.items ∙ c.optional_validity.ensures.zipped) in
    let all : each 8 (xs ∷ vs ∷ []) ≡ map is_true (boolean_items c.args.mask.now) = masked xs vs same_lengths ∙ ap (map is_true) slots in
    subst (λ (z : List Bool). IfOk c.and.result (λ b. items_of b ≡ z)) all c.and.ensures.items

pub returns-in_ok-clone-in-None-clause-items : goal.returns-in_ok-clone-in-None-clause-items
returns-in_ok-clone-in-None-clause-items c =
    let xs = items_of c.args.mask.now.values in
    let copy : c.in_ok-clone-in-None.field-0 ≡ c.values-in-None.result.now = search rules in
    let same = ap items_of (copy ∙ c.values-in-None.ensures.value) in
    let size : length (valid_items c.optional_validity.result.now) ≡ length xs = omega (arith, c.optional_validity.ensures.len, c.values-in-None.ensures.len, ap (λ b. length (items_of b)) c.values-in-None.ensures.value) in
    let valid : valid_items c.optional_validity.result.now ≡ replicate (length xs) true = c.in-None.ensures.items ∙ ap (λ n. replicate n true) size in
    let slots : zipped xs (replicate (length xs) true) ≡ boolean_items c.args.mask.now = ap (zipped xs) (sym valid) ∙ c.optional_validity.ensures.zipped in
    same ∙ (sym (all-there xs) ∙ ap (map is_true) slots)
