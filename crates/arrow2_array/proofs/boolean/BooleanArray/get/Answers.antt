use Rattle.std.proofs.Common.{None, get_or, length, ap, ◌∙◌, arith}
use Rattle.arrow2_model.specs.Lists.{items_of}
use Rattle.arrow2_validity.specs.OptionalValidity.{valid_items}
use Rattle.arrow2_walks.proofs.Zipped.{length-zipped}
use Rattle.arrow2_array.specs.Items.{boolean_items}
use Rattle.arrow2_array.proofs.Items.{item-at}
use Rattle.arrow2_array.proofs.boolean.BooleanArray.get.Goals as goal

pub returns : goal.returns
returns c =
    let xs = items_of c.self.inside.values in
    let vs = valid_items c.self.inside.validity in
    let long = length-zipped xs vs c.self.invariant in
    let same = ap (λ a. length (boolean_items a)) c.self.view_is in
    c.then_some.ensures ∙ (item-at xs vs c.args.index c.get_bit-value.result c.is_valid.result c.self.invariant (omega (arith, long, same, c.requires.below)) c.get_bit-value.ensures c.is_valid.ensures
    ∙ ap (λ a. get_or (boolean_items a) c.args.index None) c.self.view_is)
