use Rattle.std.proofs.Common.{◌≡◌, ◌∷◌, [], ap, sym, length, ◌∙◌, arith, ◌&&◌}
use Rattle.std.specs.Simd.Lanes.{zip2}
use Rattle.std.proofs.lemmas.Grind.{common_steps}
use Rattle.arrow2_array.specs.Items.{boolean_items}
use Rattle.arrow2_model.specs.Lists.{buffer_items, items_of}
use Rattle.arrow2_model.specs.Tables.{each}
use Rattle.arrow2_validity.specs.OptionalValidity.{valid_items}
use Rattle.arrow2_walks.specs.Zipped.{zipped}
use Rattle.arrow2_numeric.proofs.Pairs.{both-zipped, each-and, tested-pairs}
use Rattle.arrow2_numeric.proofs.comparison.compare_pairs.Goals as goal

-- the results for the values, with the validity of both
pub returns-clause-items : goal.returns-clause-items
returns-clause-items g c outcome stated =
    let xs = buffer_items c.args.lhs.now.values in
    let ys = buffer_items c.args.rhs.now.values in
    let vs = valid_items c.args.lhs.now.validity in
    let ws = valid_items c.args.rhs.now.validity in
    let left : c.as_slice-left.result.now ≡ xs = c.as_slice-left.ensures ∙ ap buffer_items c.values-values.ensures.value in
    let right : c.as_slice-right.result.now ≡ ys = c.as_slice-right.ensures ∙ ap buffer_items c.values.ensures.value in
    let same_lengths : length c.as_slice-left.result.now ≡ length c.as_slice-right.result.now = omega (arith, ap length c.as_slice-left.ensures, ap length c.as_slice-right.ensures, c.values-values.ensures.len, c.values.ensures.len, c.requires.same_length) in
    let made : items_of c.in_ok-tested.tested ≡ zip2 outcome c.as_slice-left.result.now c.as_slice-right.result.now =
    tested-pairs c.as_slice-left.result.now c.as_slice-right.result.now (items_of c.in_ok-tested.tested) _ outcome same_lengths c.in_ok-tested.ensures.len c.in_ok-tested.ensures.results stated in
    let same : zip2 outcome c.as_slice-left.result.now c.as_slice-right.result.now ≡ zip2 outcome xs ys = ap (λ l. zip2 outcome l c.as_slice-right.result.now) left ∙ ap (zip2 outcome xs) right in
    let one : valid_items c.optional_validity.result.now ≡ vs = ap valid_items c.optional_validity.ensures.value in
    let other : valid_items c.optional_validity-2.result.now ≡ ws = ap valid_items c.optional_validity-2.ensures.value in
    let long : length vs ≡ length ws = grind (arith, common_steps, one, other) in
    let known : each 8 (valid_items c.optional_validity.result.now ∷ valid_items c.optional_validity-2.result.now ∷ []) ≡ each 8 (vs ∷ ws ∷ []) =
    ap (λ l. each 8 (l ∷ valid_items c.optional_validity-2.result.now ∷ [])) one ∙ ap (λ l. each 8 (vs ∷ l ∷ [])) other in
    let valid : valid_items c.in_ok-validity.validity ≡ zip2 ◌&&◌ vs ws = c.in_ok-validity.ensures.items ∙ (known ∙ each-and vs ws long) in
    ap boolean_items c.from_parts.ensures
    ∙ (ap (λ items. zipped items (valid_items c.in_ok-validity.validity)) (made ∙ same)
    ∙ (ap (zipped (zip2 outcome xs ys)) valid ∙ sym (both-zipped outcome xs ys vs ws)))
