use Rattle.std.proofs.Common.{ap, ◌∙◌}
use Rattle.std.proofs.Math.Seq.{take-length}
use Rattle.arrow2_model.specs.Lists.{buffer_items}
use Rattle.arrow2_primitive.specs.Primitive.{primitive_items}
use Rattle.arrow2_primitive.proofs.Growing.{all-there}
use Rattle.arrow2_primitive.proofs.array.PrimitiveArray.from_vec.Goals as goal

pub returns-clause-items : goal.returns-clause-items
returns-clause-items g c =
    ap primitive_items c.new.ensures ∙ all-there c.in_ok-values.values c.args.values.items (ap buffer_items c.in_ok-values.ensures ∙ take-length c.args.values.items)
