use Rattle.std.proofs.Common.{◌∙◌, ◌≡◌, ap, arith, length}
use Rattle.arrow2_model.specs.Lists.{items_of}
use Rattle.arrow2_validity.specs.OptionalValidity.{valid_items}
use Rattle.arrow2_walks.proofs.Zipped.{length-zipped}
use Rattle.arrow2_array.specs.Items.{boolean_items}
use Rattle.arrow2_array.specs.Kleene.{by_items}
use Rattle.arrow2_array.proofs.Tables.{by_tables}
use Rattle.arrow2_array.proofs.boolean.BooleanArray.by_tables.Goals as goal

pub returns-clause-items : goal.returns-clause-items
returns-clause-items g c f spelled =
    let xs = items_of c.self.inside.values in
    let ns = valid_items c.self.inside.validity in
    let ys = items_of c.other.inside.values in
    let ms = valid_items c.other.inside.validity in
    let left = length-zipped xs ns c.self.invariant in
    let right = length-zipped ys ms c.other.invariant in
    let one = ap (λ a. length (boolean_items a)) c.self.view_is in
    let two = ap (λ a. length (boolean_items a)) c.other.view_is in
    let same : length ys ≡ length xs = omega (arith, left, right, one, two, c.requires.same_length) in
    let stated = by_tables g.row.VALUES g.row.KNOWN f xs ns ys ms spelled c.self.invariant same (c.other.invariant ∙ same) in
    rw (c.in_ok-values.ensures.items, c.in_ok-validity.ensures.items)
    (stated ∙ (ap (λ a. by_items f (boolean_items a) (boolean_items (record { values = c.other.inside.values; validity = c.other.inside.validity }))) c.self.view_is ∙ ap (λ a. by_items f (boolean_items c.args.self.now) (boolean_items a)) c.other.view_is))
