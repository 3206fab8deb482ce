use Rattle.std.proofs.Common.{◌≡◌, ◌∙◌, count_by, is_some, map, ap, sym, is_none}
use Rattle.std.proofs.lemmas.List.{length-map}
use Rattle.std.proofs.Math.Seq.{take-length}
use Rattle.std.proofs.lemmas.Option.{IfSome_then}
use Rattle.arrow2_model.specs.Lists.{buffer_items, falses, items_of}
use Rattle.arrow2_walks.proofs.Zipped.{nulls-zipped}
use Rattle.arrow2_primitive.specs.Primitive.{primitive_items}
use Rattle.arrow2_primitive.proofs.Growing.{paired}
use Rattle.arrow2_compute.specs.Take.{item_at}
use Rattle.arrow2_compute.proofs.take.take_by_array.Goals as goal

pub returns-clause-items : goal.returns-clause-items
returns-clause-items g c =
    let f = item_at g.I.Number.value (primitive_items c.args.array.now) in
    let indices = primitive_items c.args.indices.now in
    let made = c.in_ok-values_by_array in
    let xs = made.field-0.items in
    let held : buffer_items c.in_ok-values.values ≡ xs = ap buffer_items c.in_ok-values.ensures ∙ take-length xs in
    ap primitive_items c.new.ensures
    ∙ paired (map f indices) xs c.in_ok-values.values (items_of c.in_ok-bits_by_array.field-0) c.into_validity-validity.result made.ensures.items (made.ensures.len ∙ sym (length-map indices f)) held c.in_ok-bits_by_array.ensures.items c.into_validity-validity.ensures.none (IfSome_then c.into_validity-validity.result c.into_validity-validity.ensures.value (λ b e. ap items_of e))

pub returns-clause-bitmap : goal.returns-clause-bitmap
returns-clause-bitmap g c =
    let f = item_at g.I.Number.value (primitive_items c.args.array.now) in
    let indices = primitive_items c.args.indices.now in
    let items = map f indices in
    let made = c.in_ok-values_by_array in
    let size = made.ensures.len ∙ sym (length-map indices f) in
    let nulls : count_by is_none items ≡ falses (map is_some items) = ap (count_by is_none) (sym made.ensures.items) ∙ nulls-zipped made.field-0.items (map is_some items) (length-map items is_some ∙ sym size) in
    rw (returns-clause-items g c, ap (λ a. a.validity.bitmap) c.new.ensures, nulls, sym c.in_ok-bits_by_array.ensures.items) c.into_validity-validity.ensures.none
