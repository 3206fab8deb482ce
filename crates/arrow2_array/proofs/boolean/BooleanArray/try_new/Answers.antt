use Rattle.arrow2_model.specs.Lists.{items_of}
use Rattle.arrow2_array.proofs.Items.{items-by}
use Rattle.arrow2_array.proofs.boolean.BooleanArray.try_new.Goals as goal

pub returns-clause-items : goal.returns-clause-items
returns-clause-items c = rw c.in_ok-validity.ensures.ok (items-by (items_of c.args.values) c.len.result c.args.validity c.len.ensures.items)
