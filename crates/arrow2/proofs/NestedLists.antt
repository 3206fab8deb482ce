-- Lemmas on the lists that offsets cut from their items, for a column of texts or of lists, and the ruleset that a
-- caller names in `using`.
pub use Rattle.arrow2_offset.proofs.NestedLists.{length-cut, at-cut, part-cut, push-cut, extend-cut, sum-part, item-cut, past-cut, nested}
