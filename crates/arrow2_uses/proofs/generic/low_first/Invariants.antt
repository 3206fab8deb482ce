use Rattle.std.proofs.Common.{◌≡◌, take, flat_map}
use Rattle.arrow2_uses.proofs.generic.low_first.Given as goal

abbrev pub invariant-loop-value : goal.invariant-loop-value
invariant-loop-value g l = l.bytes.items ≡ flat_map g.T.NativeType.le_digits (take l.value-index l.values)
