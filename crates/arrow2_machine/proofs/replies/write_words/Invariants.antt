use Rattle.std.proofs.Common.{◌≡◌, ◌++◌, map, decimal}
use Rattle.arrow2.specs.Lists.{words}
use Rattle.arrow2_machine.specs.Replies.{words_text}
use Rattle.arrow2_machine.proofs.WordLemmas.{pending}
use Rattle.arrow2_machine.proofs.replies.write_words.Given as goal

abbrev pub invariant-loop-word : goal.invariant-loop-word
invariant-loop-word g l = l.out.items ++ pending l.first (map decimal (words g.T.BitChunk.WIDTH l.chunks.items)) ≡ l.fn.out.items ++ words_text (map decimal (words g.T.BitChunk.WIDTH l.fn.chunks.items))
