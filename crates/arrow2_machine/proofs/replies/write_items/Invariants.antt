use Rattle.std.proofs.Common.{◌≡◌, ◌++◌, map}
use Rattle.arrow2_script.specs.Words.{bit_byte, bits_text}
use Rattle.arrow2_machine.proofs.replies.write_items.Given as goal

abbrev pub invariant-loop-item : goal.invariant-loop-item
invariant-loop-item l = l.out.items ++ map bit_byte l.item-iterator ≡ l.fn.out.items ++ bits_text l.fn.items
