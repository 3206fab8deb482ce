use Rattle.std.proofs.Common.{◌≡◌, ◌++◌, length, map}
use Rattle.arrow2_machine.specs.Replies.{run_word, words_text}
use Rattle.arrow2_machine.proofs.WordListLemmas.{led}
use Rattle.arrow2_machine.proofs.replies.write_runs.Given as goal

abbrev pub invariant-loop-start : goal.invariant-loop-start
invariant-loop-start l = l.out.items ++ led (map run_word l.runs.runs) ≡ l.fn.out.items ++ words_text (map run_word l.fn.runs.runs)

abbrev pub decreases-loop-start : goal.decreases-loop-start
decreases-loop-start l = length l.runs.runs
