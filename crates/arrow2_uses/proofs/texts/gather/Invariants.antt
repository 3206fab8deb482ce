use Rattle.std.proofs.Common.{◌≡◌, Some, map, take}
use Rattle.arrow2_uses.proofs.texts.gather.Given as goal

abbrev pub invariant-loop-text : goal.invariant-loop-text
invariant-loop-text l = l.gathered.items ≡ map (λ text. Some text.now) (take l.text-index l.texts)
