use Rattle.std.proofs.Common.{rules}
use Rattle.arrow2_validity.proofs.Alike.{lists_Decides}
use Rattle.arrow2_primitive.specs.Primitive.{primitive_items}
use Rattle.arrow2_primitive.proofs.equal.PrimitiveArrayPartialEq.eq.Goals as goal

pub returns-then-eq-clause-same : goal.returns-then-eq-clause-same
returns-then-eq-clause-same g c = λ same.
    let items = lists_Decides g.T.PartialEq.eq same (primitive_items c.args.self.now) (primitive_items c.args.other.now) c.same_items.result c.same_items.ensures in (
      λ yes. (search rules, items.0 yes),
      λ both. items.1 both.1,
    )
