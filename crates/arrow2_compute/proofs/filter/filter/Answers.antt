use Rattle.std.proofs.Common.{◌≡◌, ◌∙◌, length, ap, sym, arith, is_some}
use Rattle.std.proofs.lemmas.List.{length-map}
use Rattle.std.proofs.Math.Seq.{take-length}
use Rattle.arrow2_model.specs.Lists.{buffer_items, items_of}
use Rattle.arrow2_primitive.specs.Primitive.{primitive_items}
use Rattle.arrow2_validity.specs.OptionalValidity.{valid_items}
use Rattle.arrow2_walks.specs.Selections.{selection}
use Rattle.arrow2_walks.specs.Zipped.{zipped}
use Rattle.arrow2_walks.proofs.Selections.{count-selected}
use Rattle.arrow2_compute.proofs.ItemsAtIndices.{by-bitmap, by-parts}
use Rattle.arrow2_numeric.proofs.Selecting.{selected-zipped}
use Rattle.arrow2_compute.proofs.filter.filter.Goals as goal

pub new-requires-clause-same_length : goal.new-requires-clause-same_length
new-requires-clause-same_length g c = λ x e.
    let mask = items_of c.args.mask.now in
    let slots = buffer_items c.values.result.now in
    let valid = valid_items c.optional_validity.result.now in
    let kept : buffer_items c.in_ok-values.values ≡ selection slots mask = ap buffer_items c.in_ok-values.ensures ∙ (take-length c.in_ok-selected_values.field-0.items ∙ (c.in_ok-selected_values.ensures ∙ ap (λ l. selection l mask) c.as_slice.ensures)) in
    let there = by-bitmap c.in_ok-validity.validity x (sym c.into_bitmap.ensures ∙ e) ∙ c.in_ok-validity.ensures.items in
    let sized : length valid ≡ length (primitive_items c.args.array.now) = ap length c.optional_validity.ensures.items ∙ length-map (primitive_items c.args.array.now) is_some in
    let m = count-selected slots mask (omega (arith, c.values.ensures.len, c.requires.same_length)) in
    let n = count-selected valid mask (omega (arith, sized, c.requires.same_length)) in
    omega (arith, ap length kept, ap length there, m, n)

pub returns-clause-items : goal.returns-clause-items
returns-clause-items g c =
    let mask = items_of c.args.mask.now in
    let items = primitive_items c.args.array.now in
    let slots = buffer_items c.values.result.now in
    let valid = valid_items c.optional_validity.result.now in
    let kept : buffer_items c.in_ok-values.values ≡ selection slots mask = ap buffer_items c.in_ok-values.ensures ∙ (take-length c.in_ok-selected_values.field-0.items ∙ (c.in_ok-selected_values.ensures ∙ ap (λ l. selection l mask) c.as_slice.ensures)) in
    let m = count-selected slots mask (omega (arith, c.values.ensures.len, c.requires.same_length)) in
    let parts = by-parts (length (buffer_items c.in_ok-values.values)) c.into_bitmap.result c.in_ok-validity.validity c.into_bitmap.ensures (omega (arith, ap length kept, m, c.in_ok-validity.ensures.len)) in
    let sized : length valid ≡ length slots = omega (arith, ap length c.optional_validity.ensures.items, length-map items is_some, c.values.ensures.len) in
    let whole : zipped slots valid ≡ items = ap (λ b. zipped (buffer_items b) valid) c.values.ensures.value ∙ c.optional_validity.ensures.zipped in
    ap primitive_items c.new.ensures
    ∙ (ap (zipped (buffer_items c.in_ok-values.values)) (parts ∙ c.in_ok-validity.ensures.items)
    ∙ (ap (λ xs. zipped xs (selection valid mask)) kept
    ∙ (sym (selected-zipped slots valid mask sized) ∙ ap (λ l. selection l mask) whole)))
