use Rattle.std.proofs.Common.{◌≡◌, length, map, ap, sym, ◌∙◌, rules}
use Rattle.arrow2_array.specs.Items.{boolean_items}
use Rattle.arrow2_model.specs.Lists.{buffer_items, items_of}
use Rattle.arrow2_validity.specs.OptionalValidity.{valid_items}
use Rattle.arrow2_walks.specs.Zipped.{zipped}
use Rattle.arrow2_numeric.proofs.Comparisons.{map-zipped}
use Rattle.arrow2_numeric.proofs.comparison.compare_each.Goals as goal

-- the results for the values, with the validity of the array
pub returns-clause-items : goal.returns-clause-items
returns-clause-items g c outcome stated =
    let values = buffer_items c.args.array.now.values in
    let validity = valid_items c.args.array.now.validity in
    let is : c.as_slice.result.now ≡ values = c.as_slice.ensures ∙ ap buffer_items c.values-values.ensures.value in
    let made : items_of c.in_ok-tested.tested ≡ map outcome values = c.in_ok-tested.ensures.items outcome (rw is stated) ∙ ap (map outcome) is in
    let copy : c.in_ok-clone.field-0 ≡ c.optional_validity-validity.result.now = search rules in
    let same = copy ∙ c.optional_validity-validity.ensures.value in
    ap boolean_items c.from_parts.ensures ∙ (ap (λ items. zipped items (valid_items c.in_ok-clone.field-0)) made ∙ (ap (λ v. zipped (map outcome values) (valid_items v)) same ∙ sym (map-zipped outcome values validity)))

-- each stored result is one that the test may return for the value at its index
pub returns-clause-results : goal.returns-clause-results
returns-clause-results g c index below =
    let is : c.as_slice.result.now ≡ buffer_items c.args.array.now.values = c.as_slice.ensures ∙ ap buffer_items c.values-values.ensures.value in
    let stored : c.from_parts.result.values ≡ c.in_ok-tested.tested = ap (λ a. a.values) c.from_parts.ensures in
    rw (stored, ← is) (c.in_ok-tested.ensures.results index (rw is below))

pub returns-clause-len : goal.returns-clause-len
returns-clause-len g c =
    let is : c.as_slice.result.now ≡ buffer_items c.args.array.now.values = c.as_slice.ensures ∙ ap buffer_items c.values-values.ensures.value in
    ap (λ a. length (items_of a.values)) c.from_parts.ensures ∙ (c.in_ok-tested.ensures.len ∙ ap length is)
