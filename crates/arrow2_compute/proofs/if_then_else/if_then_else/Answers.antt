use Rattle.std.proofs.Common.{◌≡◌, ◌∙◌, length, ap, sym, arith, is_some}
use Rattle.std.proofs.lemmas.List.{length-map}
use Rattle.std.proofs.Math.Seq.{take-length}
use Rattle.arrow2_model.specs.Lists.{buffer_items, items_of}
use Rattle.arrow2_primitive.specs.Primitive.{primitive_items}
use Rattle.arrow2_validity.specs.OptionalValidity.{valid_items}
use Rattle.arrow2_walks.specs.Selections.{choice}
use Rattle.arrow2_walks.specs.Zipped.{zipped}
use Rattle.arrow2_compute.proofs.Choices.{chosen-zipped, length-all_chosen}
use Rattle.arrow2_compute.proofs.ItemsAtIndices.{by-bitmap, by-parts}
use Rattle.arrow2_compute.proofs.if_then_else.if_then_else.Goals as goal

pub new-requires-clause-same_length : goal.new-requires-clause-same_length
new-requires-clause-same_length g c = λ x e.
    let ms = items_of c.args.mask.now in
    let xs = buffer_items c.values.result.now in
    let ys = buffer_items c.values-2.result.now in
    let vs = valid_items c.optional_validity.result.now in
    let ws = valid_items c.optional_validity-2.result.now in
    let held : buffer_items c.in_ok-values-2.values ≡ choice ms xs ys = ap buffer_items c.in_ok-values-2.ensures ∙ (take-length c.in_ok-values.values.items ∙ (c.in_ok-values.ensures ∙ (ap (λ l. choice ms l c.as_slice-2.result.now) c.as_slice.ensures ∙ ap (choice ms xs) c.as_slice-2.ensures))) in
    let many = length-all_chosen ms xs ys (omega (arith, c.requires.left, c.values.ensures.len)) (omega (arith, c.requires.right, c.values-2.ensures.len)) in
    let left : length vs ≡ length (primitive_items c.args.lhs.now) = ap length c.optional_validity.ensures.items ∙ length-map (primitive_items c.args.lhs.now) is_some in
    let right : length ws ≡ length (primitive_items c.args.rhs.now) = ap length c.optional_validity-2.ensures.items ∙ length-map (primitive_items c.args.rhs.now) is_some in
    let there = by-bitmap c.in_ok-validity.validity x (sym c.into_bitmap.ensures ∙ e) ∙ c.in_ok-validity.ensures.items in
    let valid = length-all_chosen ms vs ws (omega (arith, c.requires.left, left)) (omega (arith, c.requires.right, right)) in
    omega (arith, ap length held, many, ap length there, valid)

pub returns-clause-items : goal.returns-clause-items
returns-clause-items g c =
    let ms = items_of c.args.mask.now in
    let xs = buffer_items c.values.result.now in
    let ys = buffer_items c.values-2.result.now in
    let vs = valid_items c.optional_validity.result.now in
    let ws = valid_items c.optional_validity-2.result.now in
    let left_items = primitive_items c.args.lhs.now in
    let right_items = primitive_items c.args.rhs.now in
    let held : buffer_items c.in_ok-values-2.values ≡ choice ms xs ys = ap buffer_items c.in_ok-values-2.ensures ∙ (take-length c.in_ok-values.values.items ∙ (c.in_ok-values.ensures ∙ (ap (λ l. choice ms l c.as_slice-2.result.now) c.as_slice.ensures ∙ ap (choice ms xs) c.as_slice-2.ensures))) in
    let many = length-all_chosen ms xs ys (omega (arith, c.requires.left, c.values.ensures.len)) (omega (arith, c.requires.right, c.values-2.ensures.len)) in
    let parts = by-parts (length (buffer_items c.in_ok-values-2.values)) c.into_bitmap.result c.in_ok-validity.validity c.into_bitmap.ensures (omega (arith, ap length held, many, c.in_ok-validity.ensures.len)) in
    let left_size : length vs ≡ length xs = omega (arith, ap length c.optional_validity.ensures.items, length-map left_items is_some, c.values.ensures.len) in
    let right_size : length ws ≡ length ys = omega (arith, ap length c.optional_validity-2.ensures.items, length-map right_items is_some, c.values-2.ensures.len) in
    let left : zipped xs vs ≡ left_items = ap (λ b. zipped (buffer_items b) vs) c.values.ensures.value ∙ c.optional_validity.ensures.zipped in
    let right : zipped ys ws ≡ right_items = ap (λ b. zipped (buffer_items b) ws) c.values-2.ensures.value ∙ c.optional_validity-2.ensures.zipped in
    ap primitive_items c.new.ensures
    ∙ (ap (zipped (buffer_items c.in_ok-values-2.values)) (parts ∙ c.in_ok-validity.ensures.items)
    ∙ (ap (λ l. zipped l (choice ms vs ws)) held
    ∙ (chosen-zipped ms xs ys vs ws left_size right_size
    ∙ (ap (λ l. choice ms l (zipped ys ws)) left ∙ ap (choice ms left_items) right))))
