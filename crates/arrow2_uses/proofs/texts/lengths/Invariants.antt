use Rattle.std.proofs.Common.{◌≡◌, ◌++◌, length, map, option_map}
use Rattle.arrow2.specs.Binary.{binary_items}
use Rattle.arrow2_uses.proofs.texts.lengths.Given as goal

abbrev pub invariant-loop-text : goal.invariant-loop-text
invariant-loop-text l = l.lengths.items ++ map (option_map (λ text. length text)) l.text-iterator ≡ map (option_map (λ text. length text)) (binary_items l.texts)
