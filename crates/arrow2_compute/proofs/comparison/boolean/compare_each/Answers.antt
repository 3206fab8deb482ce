use Rattle.std.proofs.Common.{◌≡◌, ◌∷◌, [], Bool, map, ap, sym, ◌∙◌, rules}
use Rattle.arrow2_array.specs.Items.{boolean_items}
use Rattle.arrow2_model.specs.Lists.{items_of}
use Rattle.arrow2_model.specs.Tables.{answer}
use Rattle.arrow2_validity.specs.OptionalValidity.{valid_items}
use Rattle.arrow2_walks.specs.Zipped.{zipped}
use Rattle.arrow2_numeric.proofs.Comparisons.{map-zipped}
use Rattle.arrow2_compute.proofs.Comparisons.{each-item}
use Rattle.arrow2_compute.proofs.comparison.boolean.compare_each.Goals as goal

pub returns-clause-items : goal.returns-clause-items
returns-clause-items c =
    let values = items_of c.args.array.now.values in
    let validity = valid_items c.args.array.now.validity in
    let beside = λ (value : Bool). answer c.outputs_beside.result (value ∷ []) in
    let test = λ (value : Bool). answer c.args.table (value ∷ c.args.scalar ∷ []) in
    let same_test : beside ≡ test = λ i value. c.outputs_beside.ensures value i in
    let made : items_of c.in_ok-tested.tested ≡ map test values =
    c.in_ok-tested.ensures.items ∙ (each-item c.outputs_beside.result (items_of c.values.result.now) ∙ (ap (λ b. map beside (items_of b)) c.values.ensures.value ∙ ap (λ f. map f values) same_test)) in
    let copy : c.in_ok-clone.field-0 ≡ c.optional_validity.result.now = search rules in
    let same = copy ∙ c.optional_validity.ensures.value in
    ap boolean_items c.from_parts.ensures ∙ (ap (λ items. zipped items (valid_items c.in_ok-clone.field-0)) made ∙ (ap (λ v. zipped (map test values) (valid_items v)) same ∙ sym (map-zipped test values validity)))
