-- Lemmas on an iterator over runs, by the runs still to come.
pub use Rattle.arrow2_walks.proofs.RemainingItems.{left-all, left-done, part-between}
