use Rattle.std.proofs.Common.{◌≡◌, ◌∙◌, map, ap, rules, is_some}
use Rattle.std.proofs.Math.Seq.{take-length}
use Rattle.std.proofs.lemmas.Option.{IfSome_then}
use Rattle.arrow2_model.specs.Lists.{buffer_items, items_of}
use Rattle.arrow2_primitive.specs.Primitive.{primitive_items}
use Rattle.arrow2_primitive.proofs.Growing.{paired}
use Rattle.arrow2_primitive.proofs.array.PrimitiveArray.from_options.Goals as goal

pub returns-clause-items : goal.returns-clause-items
returns-clause-items g c =
    let made = c.in_ok-values_of in
    let xs = made.field-0.items in
    let is : buffer_items c.in_ok-values.values ≡ xs = ap buffer_items c.in_ok-values.ensures ∙ take-length xs in
    let valid : items_of c.in_ok-valid.valid ≡ map is_some c.args.items.now = c.in_ok-valid.ensures.items is_some (search rules) in
    ap primitive_items c.new.ensures
    ∙ paired c.args.items.now xs c.in_ok-values.values (items_of c.in_ok-valid.valid) c.into_validity.result made.ensures.items made.ensures.len is valid c.into_validity.ensures.none (IfSome_then c.into_validity.result c.into_validity.ensures.value (λ b e. ap items_of e))
