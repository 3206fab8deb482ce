use Rattle.std.proofs.Common.{◌≡◌, ap, ◌∙◌}
use Rattle.std.proofs.Math.Seq.{take-length}
use Rattle.arrow2_model.specs.Lists.{buffer_items}
use Rattle.arrow2_primitive.specs.Primitive.{primitive_items}
use Rattle.arrow2_primitive.proofs.Growing.{frozen}
use Rattle.arrow2_primitive.proofs.mutable.MutablePrimitiveArray.freeze.Goals as goal

pub returns-clause-items : goal.returns-clause-items
returns-clause-items g c =
    let xs = c.self.inside.values.items in
    let is : buffer_items c.in_ok-values.values ≡ xs = ap buffer_items c.in_ok-values.ensures ∙ take-length xs in
    ap primitive_items c.new.ensures ∙ (frozen xs c.self.inside.validity.items c.in_ok-values.values c.in_ok-validity.validity c.self.invariant.0 is c.in_ok-validity.ensures.none c.in_ok-validity.ensures.items ∙ ap (λ a. a.items) c.self.view_is)
