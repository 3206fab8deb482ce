use Rattle.std.proofs.Common.{◌≡◌, ◌∙◌, false, length, map, ap, sym, rules, count_by, is_some, unwrap_or, is_none}
use Rattle.std.proofs.lemmas.List.{length-map}
use Rattle.arrow2_array.specs.Items.{boolean_items}
use Rattle.arrow2_model.specs.Lists.{falses, items_of}
use Rattle.arrow2_primitive.specs.Primitive.{primitive_items}
use Rattle.arrow2_validity.specs.OptionalValidity.{valid_items}
use Rattle.arrow2_validity.proofs.ValidItems.{items-some}
use Rattle.arrow2_walks.specs.Zipped.{zipped}
use Rattle.arrow2_walks.proofs.Zipped.{nulls-zipped}
use Rattle.arrow2_compute.specs.Take.{item_at}
use Rattle.arrow2_compute.proofs.Comparisons.{options-zipped}
use Rattle.arrow2_compute.proofs.take.take_boolean_by_array.Goals as goal

pub returns-clause-items : goal.returns-clause-items
returns-clause-items g c =
    let items = map (item_at g.I.Number.value (boolean_items c.args.array.now)) (primitive_items c.args.indices.now) in
    let values = c.in_ok-values.values in
    let bitmap = c.into_null_bitmap-validity.result in
    let made : items_of values ≡ map (λ item. unwrap_or item false) items = c.in_ok-values.ensures.items (λ item. unwrap_or item false) (search rules) in
    let known : items_of c.in_ok-known.known ≡ map is_some items = c.in_ok-known.ensures.items is_some (search rules) in
    let size : length (items_of values) ≡ c.new.result.len = sym (ap (λ v. v.len) c.new.ensures.value ∙ (c.len.ensures.items ∙ sym c.in_ok-values.ensures.len)) in
    let valid : valid_items (record { len = length (items_of values); bitmap = bitmap }) ≡ map is_some items =
    ap (λ n. valid_items (record { len = n; bitmap = bitmap })) size ∙ (c.into_null_bitmap-validity.ensures.items ∙ (ap valid_items c.new.ensures.value ∙ (items-some c.len.result c.in_ok-known.known ∙ known))) in
    ap boolean_items c.new-2.ensures.value
    ∙ (ap (λ xs. zipped xs (valid_items (record { len = length (items_of values); bitmap = bitmap }))) made
    ∙ (ap (zipped (map (λ item. unwrap_or item false) items)) valid ∙ options-zipped items false))

pub returns-clause-bitmap : goal.returns-clause-bitmap
returns-clause-bitmap g c =
    let items = map (item_at g.I.Number.value (boolean_items c.args.array.now)) (primitive_items c.args.indices.now) in
    let values = map (λ item. unwrap_or item false) items in
    let known : items_of c.in_ok-known.known ≡ map is_some items = c.in_ok-known.ensures.items is_some (search rules) in
    let valid : valid_items c.new.result ≡ map is_some items = ap valid_items c.new.ensures.value ∙ (items-some c.len.result c.in_ok-known.known ∙ known) in
    let sized : length (map is_some items) ≡ length values = length-map items is_some ∙ sym (length-map items (λ item. unwrap_or item false)) in
    let nulls : count_by is_none items ≡ falses (valid_items c.new.result) =
    ap (count_by is_none) (sym (options-zipped items false)) ∙ (nulls-zipped values (map is_some items) sized ∙ ap falses (sym valid)) in
    rw (returns-clause-items g c, ap (λ a. a.validity.bitmap) c.new-2.ensures.value, nulls) c.into_null_bitmap-validity.ensures.none
