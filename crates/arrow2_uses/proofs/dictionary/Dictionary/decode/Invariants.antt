use Rattle.std.proofs.Common.{◌≡◌, take}
use Rattle.arrow2_uses.proofs.dictionary.Dictionary.decode.Given as goal

abbrev pub invariant-loop-index : goal.invariant-loop-index
invariant-loop-index l = l.decoded.items ≡ take l.index l.self
