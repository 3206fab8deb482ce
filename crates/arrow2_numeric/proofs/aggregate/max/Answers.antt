use Rattle.arrow2_primitive.specs.Primitive.{primitive_items}
use Rattle.arrow2_walks.specs.Selections.{non_null_values}
use Rattle.arrow2_numeric.proofs.Best.{greatest-of_all}
use Rattle.arrow2_numeric.proofs.aggregate.max.Goals as goal

pub returns-clause-greatest : goal.returns-clause-greatest
returns-clause-greatest g c = greatest-of_all g.met.T.Ord.total (non_null_values (primitive_items c.args.array.now)) c.best_item.result c.best_item.ensures
