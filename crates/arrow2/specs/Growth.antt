-- The records of growth and of `reserve`: of bitmaps, of offsets and of arrays.
pub use Rattle.arrow2_packed_bits.specs.Growth.{Appends, Reserves}
pub use Rattle.arrow2_offset.specs.Growth.{Grows, GrowsUpTo, GrowsByIterator}
pub use Rattle.arrow2_primitive.specs.Growth.{AppendsItems}
pub use Rattle.arrow2_array.specs.Growth.{AppendsBooleans}
pub use Rattle.arrow2_text.specs.Growth.{AppendsBinary, AppendsSlots, GrowingBinary, HasItems, PopsBinary, items_by_bytes, bytes_of_items}
