use Rattle.std.proofs.Common.{◌≡◌, ◌++◌, map, not}
use Rattle.arrow2.specs.Lists.{items_of}
use Rattle.arrow2_uses.proofs.loops.negation.Given as goal

abbrev pub invariant-loop-item : goal.invariant-loop-item
invariant-loop-item l = l.negated.items ++ map not l.item-iterator ≡ map not (items_of l.b)
