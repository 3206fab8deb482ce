use Rattle.std.proofs.Common.{length, ap, sym, ◌∙◌}
use Rattle.arrow2_model.specs.Lists.{items_of}
use Rattle.arrow2_walks.specs.Zipped.{zipped}
use Rattle.arrow2_array.specs.Items.{boolean_items}
use Rattle.arrow2_validity.proofs.ValidItems.{left-out}
use Rattle.arrow2_array.proofs.mutable.MutableBooleanArray.freeze.Goals as goal

pub returns-clause-items : goal.returns-clause-items
returns-clause-items c =
    let xs = c.self.inside.values.items in
    let vs = c.self.inside.validity.items in
    let is = c.in_ok-values.ensures.0 in
    let known = left-out (length (items_of c.in_ok-values.values)) vs c.in_ok-validity.validity (c.self.invariant ∙ sym (ap length is)) c.in_ok-validity.ensures.none c.in_ok-validity.ensures.items in
    ap boolean_items c.new.ensures.value ∙ (ap (zipped (items_of c.in_ok-values.values)) known ∙ (ap (λ l. zipped l vs) is ∙ ap (λ a. a.items) c.self.view_is))
