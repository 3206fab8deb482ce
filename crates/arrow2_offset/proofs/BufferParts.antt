-- Parts of a buffer as their numbers.
use Rattle.std.proofs.lemmas.List.{length-map}
use Rattle.arrow2_model.proofs.Parts.{part-map}
use Rattle.arrow2_offset.proofs.OffsetLists.{spelled, length-lengths_of}

pub ruleset frozen = (spelled, length-lengths_of, length-map, part-map)
