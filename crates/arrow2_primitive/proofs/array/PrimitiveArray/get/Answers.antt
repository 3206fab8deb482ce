use Rattle.std.proofs.Common.{ap, ◌∙◌}
use Rattle.arrow2_model.specs.Lists.{buffer_items}
use Rattle.arrow2_walks.proofs.Zipped.{item-zipped}
use Rattle.arrow2_validity.specs.OptionalValidity.{valid_items}
use Rattle.arrow2_primitive.specs.Primitive.{primitive_items}
use Rattle.arrow2_primitive.proofs.array.PrimitiveArray.get.Goals as goal

pub returns : goal.returns
returns g c =
    let view = ap primitive_items c.self.view_is in
    c.then_some.ensures ∙ item-zipped (buffer_items c.self.inside.values) (valid_items c.self.inside.validity) (primitive_items c.args.self.now) c.args.index c.index-value.result.now c.is_valid.result c.self.invariant.0 view c.requires.below c.index-value.ensures c.is_valid.ensures
