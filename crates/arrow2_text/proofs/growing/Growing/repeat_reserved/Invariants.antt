use Rattle.std.specs.Option.{option_copied}
use Rattle.arrow2_text.specs.Growth.{GrownByCopies}
use Rattle.arrow2_text.proofs.growing.Growing.repeat_reserved.Given as goal

abbrev pub invariant-loop : goal.invariant-loop
invariant-loop g l = GrownByCopies l.fn.self l.self l.counter (option_copied l.fn.item)
