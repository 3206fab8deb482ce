use Rattle.std.proofs.Common.{◌≡◌, ◌+◌, length}
use Rattle.arrow2.specs.Lists.{falses, items_of}
use Rattle.arrow2_uses.proofs.loops.true_items.Given as goal

abbrev pub invariant-loop-word : goal.invariant-loop-word
invariant-loop-word l = l.total + falses (items_of l.b) + length l.words.items ≡ length (items_of l.b) + falses l.words.items
