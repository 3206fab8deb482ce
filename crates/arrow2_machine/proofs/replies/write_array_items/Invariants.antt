use Rattle.std.proofs.Common.{◌≡◌, ◌++◌, map}
use Rattle.arrow2.specs.Items.{boolean_items}
use Rattle.arrow2_machine.specs.Replies.{array_byte, array_items_text}
use Rattle.arrow2_machine.proofs.replies.write_array_items.Given as goal

abbrev pub invariant-loop-item : goal.invariant-loop-item
invariant-loop-item l = l.out.items ++ map array_byte l.item-iterator ≡ l.fn.out.items ++ array_items_text (boolean_items l.array)
