-- Lemmas on lists of booleans as words, and on the numbers of words; and the ruleset that a count by words names in
-- `using`.
use Rattle.std.proofs.lemmas.List.{length-append}
use Rattle.arrow2_model.proofs.Counts.{counting}
pub use Rattle.arrow2_model.proofs.Bits.{length-unnum}
pub use Rattle.arrow2_model.proofs.Numbers.{num-unnum}
pub use Rattle.arrow2_model.proofs.Words.{length-words, get_or-words, full_words-cons}
pub use Rattle.arrow2_kernels.proofs.RowSteps.{num-filled}

pub ruleset words = (counting, length-unnum, length-append)
