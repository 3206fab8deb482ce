use Rattle.std.proofs.Common.{◌≡◌, ◌++◌, map, drop, unsigned_abs, decimal}
use Rattle.arrow2_machine.specs.Replies.{words_text}
use Rattle.arrow2_machine.proofs.WordListLemmas.{led}
use Rattle.arrow2_machine.proofs.replies.write_offsets.Given as goal

abbrev pub invariant-loop-offset : goal.invariant-loop-offset
invariant-loop-offset l = l.out.items ++ led (map (λ x. decimal (unsigned_abs x)) (drop l.offset-index l.others)) ≡ l.fn.out.items ++ words_text (map (λ x. decimal (unsigned_abs x)) l.fn.offsets)
