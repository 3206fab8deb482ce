use Rattle.std.proofs.Common.{◌≡◌, ◌↔◌, length}
use Rattle.arrow2_model.specs.Lists.{bits, part, full_words, rest}
use Rattle.arrow2_bits.proofs.equal.same_bits.Given as goal

abbrev pub invariant-loop-word : goal.invariant-loop-word
invariant-loop-word l = record {
  long : length (full_words 64 l.words.items) ≡ length (full_words 64 l.others.items);
  alike : (full_words 64 (part (bits l.left) l.left_offset l.len) ≡ full_words 64 (part (bits l.right) l.right_offset l.len)) ↔ (full_words 64 l.words.items ≡ full_words 64 l.others.items);
  left_following : rest 64 l.words.items ≡ rest 64 (part (bits l.left) l.left_offset l.len);
  right_following : rest 64 l.others.items ≡ rest 64 (part (bits l.right) l.right_offset l.len);
}

abbrev pub decreases-loop-word : goal.decreases-loop-word
decreases-loop-word l = length (full_words 64 l.words.items)
