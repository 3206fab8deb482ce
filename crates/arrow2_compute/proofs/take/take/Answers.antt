use Rattle.std.proofs.Common.{◌≡◌, ◌∙◌, ℕ, ◌<◌, All, None, false, length, map, get_or, ap, sym, subst, arith, is_some}
use Rattle.std.proofs.lemmas.List.{length-map}
use Rattle.std.proofs.Math.Seq.{take-length}
use Rattle.arrow2_model.specs.Lists.{buffer_items}
use Rattle.arrow2_primitive.specs.Primitive.{primitive_items}
use Rattle.arrow2_validity.specs.OptionalValidity.{valid_items}
use Rattle.arrow2_walks.specs.Zipped.{zipped}
use Rattle.arrow2_compute.specs.Take.{IsItemAt}
use Rattle.arrow2_numeric.proofs.Casts.{length-zip}
use Rattle.arrow2_compute.proofs.ItemsAtIndices.{by-bitmap, by-parts, taken-zipped}
use Rattle.arrow2_compute.proofs.take.take.Goals as goal

pub new-requires-clause-same_length : goal.new-requires-clause-same_length
new-requires-clause-same_length g c = λ x e.
    let v = c.in_ok-validity.validity in
    let indices = c.args.indices.now in
    let taken = c.in_ok-values_at.field-0.items in
    let held = ap buffer_items c.in_ok-values.ensures ∙ take-length taken in
    let many = length-zip (IsItemAt (buffer_items c.values.result.now)) indices taken c.in_ok-values_at.ensures in
    let there = by-bitmap v x (sym c.into_bitmap.ensures ∙ e) ∙ c.in_ok-validity.ensures.items in
    let counted = length-map indices (λ (index : ℕ). get_or (valid_items c.optional_validity.result.now) index false) in
    omega (arith, ap length held, many, ap length there, counted)

pub returns-clause-items : goal.returns-clause-items
returns-clause-items g c =
    let v = c.in_ok-validity.validity in
    let indices = c.args.indices.now in
    let items = primitive_items c.args.array.now in
    let slots = buffer_items c.values.result.now in
    let valid = valid_items c.optional_validity.result.now in
    let taken = c.in_ok-values_at.field-0.items in
    let held : buffer_items c.in_ok-values.values ≡ taken = ap buffer_items c.in_ok-values.ensures ∙ take-length taken in
    let many = length-zip (IsItemAt slots) indices taken c.in_ok-values_at.ensures in
    let parts = by-parts (length (buffer_items c.in_ok-values.values)) c.into_bitmap.result v c.into_bitmap.ensures (omega (arith, ap length held, many, c.in_ok-validity.ensures.len)) in
    let sized : length valid ≡ length slots = omega (arith, ap length c.optional_validity.ensures.items, length-map items is_some, c.values.ensures.len) in
    let inside = subst (λ (n : ℕ). All (λ (index : ℕ). index < n) indices) (sym c.values.ensures.len) c.requires.inside in
    let whole : zipped slots valid ≡ items = ap (λ b. zipped (buffer_items b) valid) c.values.ensures.value ∙ c.optional_validity.ensures.zipped in
    ap primitive_items c.new.ensures
    ∙ (ap (zipped (buffer_items c.in_ok-values.values)) (parts ∙ c.in_ok-validity.ensures.items)
    ∙ (ap (λ xs. zipped xs (map (λ (index : ℕ). get_or valid index false) indices)) held
    ∙ (taken-zipped slots valid indices taken sized inside c.in_ok-values_at.ensures
    ∙ ap (λ l. map (λ (index : ℕ). get_or l index None) indices) whole)))
