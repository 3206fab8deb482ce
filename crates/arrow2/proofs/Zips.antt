-- Lemmas on validity zips.
pub use Rattle.arrow2_walks.proofs.Slots.{collected_slots}
