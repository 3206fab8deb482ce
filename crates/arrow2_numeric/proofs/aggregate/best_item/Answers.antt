use Rattle.std.proofs.Common.{◌≡◌, ◌∙◌, length, ap, arith, None, is_some}
use Rattle.std.proofs.lemmas.List.{length-map}
use Rattle.arrow2_model.specs.Lists.{buffer_items, items_of}
use Rattle.arrow2_primitive.specs.Primitive.{primitive_items}
use Rattle.arrow2_validity.specs.OptionalValidity.{valid_items}
use Rattle.arrow2_walks.specs.Selections.{selection}
use Rattle.arrow2_walks.specs.Zipped.{zipped}
use Rattle.arrow2_numeric.specs.Aggregates.{best_from}
use Rattle.arrow2_numeric.proofs.Selecting.{all-values, valid-values}
use Rattle.arrow2_numeric.proofs.aggregate.best_item.Goals as goal

pub returns-in-Some : goal.returns-in-Some
returns-in-Some g c =
    let slots = buffer_items c.values.result.now in
    let valid = valid_items c.optional_validity.result.now in
    let items = primitive_items c.args.array.now in
    let bits = items_of c.in-Some.validity.now in
    let whole : zipped slots valid ≡ items = ap (λ b. zipped (buffer_items b) valid) c.values.ensures.value ∙ c.optional_validity.ensures.zipped in
    c.best_valid.ensures ∙ ap (best_from g.C.Choice.kept None) (ap (λ l. selection l bits) c.as_slice-values.ensures ∙ valid-values slots valid bits items whole c.in-Some.ensures.items)

pub returns-in-None : goal.returns-in-None
returns-in-None g c =
    let slots = buffer_items c.values.result.now in
    let valid = valid_items c.optional_validity.result.now in
    let items = primitive_items c.args.array.now in
    let whole : zipped slots valid ≡ items = ap (λ b. zipped (buffer_items b) valid) c.values.ensures.value ∙ c.optional_validity.ensures.zipped in
    let sized = ap length c.optional_validity.ensures.items ∙ length-map items is_some in
    c.best_of_halves.ensures ∙ ap (best_from g.C.Choice.kept None) (c.as_slice-values.ensures ∙ all-values slots valid items (length valid) whole c.in-None.ensures.items (omega (arith, sized, c.values.ensures.len)))
