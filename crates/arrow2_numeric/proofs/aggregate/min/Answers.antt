use Rattle.arrow2_primitive.specs.Primitive.{primitive_items}
use Rattle.arrow2_walks.specs.Selections.{non_null_values}
use Rattle.arrow2_numeric.proofs.Best.{least-of_all}
use Rattle.arrow2_numeric.proofs.aggregate.min.Goals as goal

pub returns-clause-least : goal.returns-clause-least
returns-clause-least g c = least-of_all g.met.T.Ord.total (non_null_values (primitive_items c.args.array.now)) c.best_item.result c.best_item.ensures
