use Rattle.std.proofs.Common.{◌≡◌, map, ap, sym, ◌∙◌, rules}
use Rattle.arrow2_array.specs.Items.{boolean_items}
use Rattle.arrow2_bitmap.proofs.Predicates.{stated-each}
use Rattle.arrow2_model.specs.Lists.{items_of}
use Rattle.arrow2_text.specs.Binary.{binary_values}
use Rattle.arrow2_validity.specs.OptionalValidity.{valid_items}
use Rattle.arrow2_walks.specs.Zipped.{zipped}
use Rattle.arrow2_numeric.proofs.Comparisons.{map-zipped}
use Rattle.arrow2_compute.proofs.comparison.binary.compare_each.Goals as goal

pub returns-clause-items : goal.returns-clause-items
returns-clause-items g c outcome states =
    let array = c.args.array.now in
    let values = binary_values array in
    let validity = valid_items array.validity in
    let size = c.in_ok-tested.ensures.len ∙ c.len.ensures.values in
    let made : items_of c.in_ok-tested.tested ≡ map outcome values = stated-each values (items_of c.in_ok-tested.tested) _ outcome size (rw (sym c.len.ensures.values) c.in_ok-tested.ensures.results) states in
    let copy : c.in_ok-clone.field-0 ≡ c.optional_validity.result.now = search rules in
    let same = copy ∙ c.optional_validity.ensures.value in
    ap boolean_items c.from_parts.ensures ∙ (ap (λ items. zipped items (valid_items c.in_ok-clone.field-0)) made ∙ (ap (λ v. zipped (map outcome values) (valid_items v)) same ∙ sym (map-zipped outcome values validity)))
