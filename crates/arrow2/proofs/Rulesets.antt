-- The rulesets that a caller names in `using`: of counts, parts, iterators over a part, words, bytes that stand for a
-- list, `==` of lists, and printed bits.
pub use Rattle.arrow2_model.proofs.Canonical.{canonical}
pub use Rattle.arrow2_model.proofs.Counts.{counting, counted_words}
pub use Rattle.arrow2_model.proofs.Same.{comparing}
pub use Rattle.arrow2_model.proofs.Shown.{texts}
pub use Rattle.arrow2_model.proofs.Texts.{texts_of_lists}
pub use Rattle.arrow2_model.proofs.Cursors.{parts}
pub use Rattle.arrow2_model.proofs.Words.{by_words}
pub use Rattle.arrow2_walks.proofs.ItemParts.{iterating}
