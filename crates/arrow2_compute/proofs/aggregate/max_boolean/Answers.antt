use Rattle.arrow2_walks.specs.Selections.{non_null_values}
use Rattle.arrow2_array.specs.Items.{boolean_items}
use Rattle.arrow2_compute.proofs.Extremes.{greatest-boolean}
use Rattle.arrow2_compute.proofs.aggregate.max_boolean.Goals as goal

pub returns : goal.returns
returns c = greatest-boolean (non_null_values (boolean_items c.args.array.now)) c.wanted_or_other.result c.wanted_or_other.ensures
