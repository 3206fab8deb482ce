use Rattle.std.proofs.Common.{◌≡◌, ◌++◌, length, map}
use Rattle.std.specs.Iterator.Adapters.{zip_first, zip_second}
use Rattle.arrow2.specs.Zipped.{zipped}
use Rattle.arrow2_machine.specs.Replies.{words_text, slot_word}
use Rattle.arrow2_machine.proofs.WordListLemmas.{led}
use Rattle.arrow2_machine.proofs.replies.write_slots.Given as goal

abbrev pub invariant-loop-len : goal.invariant-loop-len
invariant-loop-len l = record {
  so_far : l.out.items ++ led (map slot_word (zipped (zip_first l.len-iterator) (zip_second l.len-iterator))) ≡ l.fn.out.items ++ words_text (map slot_word (zipped l.fn.lengths l.fn.validity));
  same : length (zip_first l.len-iterator) ≡ length (zip_second l.len-iterator);
}
