use Rattle.std.proofs.Common.{◌≡◌, length, ap, sym, ◌∙◌, arith, ◌&&◌}
use Rattle.std.specs.Simd.Lanes.{zip2}
use Rattle.arrow2_array.specs.Items.{boolean_items}
use Rattle.arrow2_bitmap.proofs.Predicates.{stated-pairs}
use Rattle.arrow2_model.specs.Lists.{items_of}
use Rattle.arrow2_text.specs.Binary.{binary_values}
use Rattle.arrow2_validity.specs.OptionalValidity.{valid_items}
use Rattle.arrow2_walks.specs.Zipped.{zipped}
use Rattle.arrow2_numeric.proofs.Pairs.{both-zipped, each-and}
use Rattle.arrow2_compute.proofs.comparison.binary.compare_pairs.Goals as goal

pub returns-clause-items : goal.returns-clause-items
returns-clause-items g c outcome states =
    let lhs = c.args.lhs.now in
    let rhs = c.args.rhs.now in
    let xs = binary_values lhs in
    let ys = binary_values rhs in
    let vs = valid_items lhs.validity in
    let ws = valid_items rhs.validity in
    let left : c.len-count.result ≡ length xs = c.len-count.ensures.values in
    let long : length xs ≡ length ys = omega (arith, c.requires.same_length, left, c.len-count.ensures.items, c.len-other.ensures.items, c.len-other.ensures.values) in
    let size = c.in_ok-tested.ensures.len ∙ left in
    let made : items_of c.in_ok-tested.tested ≡ zip2 outcome xs ys =
    stated-pairs xs ys (items_of c.in_ok-tested.tested) _ outcome long size (rw (sym left) c.in_ok-tested.ensures.results) states in
    let known : length (valid_items c.optional_validity.result.now) ≡ length (valid_items c.optional_validity-2.result.now) =
    omega (arith, c.requires.same_length, c.optional_validity.ensures.slots, c.optional_validity-2.ensures.slots, c.len-count.ensures.items, c.len-count.ensures.slots, c.len-other.ensures.items, c.len-other.ensures.slots) in
    let one : valid_items c.optional_validity.result.now ≡ vs = ap valid_items c.optional_validity.ensures.value in
    let other : valid_items c.optional_validity-2.result.now ≡ ws = ap valid_items c.optional_validity-2.ensures.value in
    let valid : valid_items c.in_ok-validity.validity ≡ zip2 ◌&&◌ vs ws =
    c.in_ok-validity.ensures.items ∙ (each-and (valid_items c.optional_validity.result.now) (valid_items c.optional_validity-2.result.now) known ∙ (ap (λ l. zip2 ◌&&◌ l (valid_items c.optional_validity-2.result.now)) one ∙ ap (zip2 ◌&&◌ vs) other)) in
    ap boolean_items c.from_parts.ensures
    ∙ (ap (λ items. zipped items (valid_items c.in_ok-validity.validity)) made
    ∙ (ap (zipped (zip2 outcome xs ys)) valid ∙ sym (both-zipped outcome xs ys vs ws)))
