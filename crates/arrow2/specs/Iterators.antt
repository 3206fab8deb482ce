-- An iterator may give more than a call accepts: items of a bitmap or of an array, lengths of offsets, bytes of texts.
pub use Rattle.arrow2_bitmap.specs.Iterators.{MayYieldTooMany}
pub use Rattle.arrow2_offset.specs.Iterators.{MayYieldMoreThan, MayYieldPast}
pub use Rattle.arrow2_text.specs.Growth.{MayYieldPastOffset}
