-- Lemmas on keys and the items at them, for a dictionary of one's own, and the ruleset that a caller names in `using`.
pub use Rattle.arrow2_model.proofs.Parts.{part-map}
pub use Rattle.arrow2_compute.proofs.Keys.{at-keys, selected-map, key-in_bounds, selected-in_bounds, keys}
