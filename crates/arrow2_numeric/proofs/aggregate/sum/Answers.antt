use Rattle.std.proofs.Common.{◌≡◌, ◌∙◌, length, ap, arith, rules, is_some}
use Rattle.std.proofs.lemmas.List.{length-map}
use Rattle.arrow2_model.specs.Lists.{buffer_items, items_of}
use Rattle.arrow2_primitive.specs.Primitive.{primitive_items}
use Rattle.arrow2_validity.specs.OptionalValidity.{valid_items}
use Rattle.arrow2_walks.specs.Selections.{selection}
use Rattle.arrow2_walks.specs.Zipped.{zipped}
use Rattle.arrow2_numeric.specs.Aggregates.{sum_of, sum_of_non_null}
use Rattle.arrow2_numeric.proofs.Selecting.{all-values, valid-values}
use Rattle.arrow2_numeric.proofs.Sums.{sum-non_null}
use Rattle.arrow2_numeric.proofs.aggregate.sum.Given as given
use Rattle.arrow2_numeric.proofs.aggregate.sum.Goals as goal
use Rattle.arrow2_numeric.proofs.aggregate.sum.Goals.{After-optional_validity}

-- the values and the validity are those of the items
whole : (g : given.Over) → (c : After-optional_validity g) → zipped (buffer_items c.values.result.now) (valid_items c.optional_validity.result.now) ≡ primitive_items c.args.array.now
whole g c = ap (λ b. zipped (buffer_items b) (valid_items c.optional_validity.result.now)) c.values.ensures.value ∙ c.optional_validity.ensures.zipped

pub returns-in-Some : goal.returns-in-Some
returns-in-Some g c =
    let f = g.T.WholeNumber.integer in
    let items = primitive_items c.args.array.now in
    let bits = items_of c.in-Some.validity.now in
    let is : c.sum_of_valid.result ≡ sum_of_non_null f items = c.sum_of_valid.ensures ∙ (ap (sum_of f) (ap (λ l. selection l bits) c.as_slice-values.ensures ∙ valid-values _ _ bits items (whole g (goal.at.returns-in-Some g c).After-optional_validity) c.in-Some.ensures.items) ∙ sum-non_null f items) in
    search rules

pub returns-in-None : goal.returns-in-None
returns-in-None g c =
    let f = g.T.WholeNumber.integer in
    let items = primitive_items c.args.array.now in
    let sized = ap length c.optional_validity.ensures.items ∙ length-map items is_some in
    let is : c.sum_of_values.result ≡ sum_of_non_null f items = c.sum_of_values.ensures ∙ (ap (sum_of f) (c.as_slice-values.ensures ∙ all-values _ _ items _ (whole g (goal.at.returns-in-None g c).After-optional_validity) c.in-None.ensures.items (omega (arith, sized, c.values.ensures.len))) ∙ sum-non_null f items) in
    search rules
