use Rattle.std.proofs.Common.{rules}
use Rattle.std.specs.Bool.{beq}
use Rattle.std.specs.Cmp.{booleans_Decides}
use Rattle.arrow2_array.specs.Items.{boolean_items}
use Rattle.arrow2_validity.proofs.Alike.{lists_Decides}
use Rattle.arrow2_array.proofs.boolean.BooleanArrayPartialEq.eq.Goals as goal

pub returns-then-len-clause-same : goal.returns-then-len-clause-same
returns-then-len-clause-same c = lists_Decides beq booleans_Decides (boolean_items c.args.self.now) (boolean_items c.args.other.now) c.same_items.result (search rules)
