use Rattle.std.proofs.Common.{◌≡◌, is_some, map, take}
use Rattle.arrow2_uses.proofs.validity.validity_of.Given as goal

abbrev pub invariant-loop-value : goal.invariant-loop-value
invariant-loop-value l = l.validity.items ≡ map is_some (take l.value-index l.values)
