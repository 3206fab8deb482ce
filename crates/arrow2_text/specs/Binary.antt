-- What contracts see of arrays of byte strings and of texts.
use Rattle.std.specs.Prelude.{◌≡◌, ◌↔◌, ℕ, ◌+◌, Bool, ℤ, List, Option, length, sum, count_by, if◌then◌else◌, IfSome, IsNone}
use Rattle.std.specs.Option.{ForSome, is_none}
use Rattle.arrow2_model.specs.Lists.{BufferStorage, buffer_items, whole_buffer, part, BitmapStorage, items_of}
use Rattle.arrow2_walks.specs.Zipped.{zipped}
use Rattle.arrow2_offset.specs.Offsets.{lengths_of, offset_at, start_of, last_of}
use Rattle.arrow2_utf8.specs.Texts.{slot_values}
use Rattle.arrow2_validity.specs.OptionalValidity.{OptionalValidity, valid_items, sliced_validity}
use Rattle.arrow2_datatypes.specs.declared.DataType.{DataType, Binary, LargeBinary, Utf8, LargeUtf8}
use Rattle.arrow2_datatypes.specs.declared.physical_type.PhysicalType.{PhysicalType}
use Rattle.arrow2_datatypes.specs.declared.physical_type.PhysicalType.TheVariants as Physical
use Rattle.arrow2_bitmap.specs.PackedBitmaps.{IsPacked}

-- an array: its logical type, where the bytes of each slot begin, the bytes, and which slots are not null
pub record BinaryParts : Type 0 where
  pub data_type : DataType
  pub offsets : BufferStorage ℤ
  pub values : BufferStorage ℕ
  pub validity : OptionalValidity

-- the bytes of each slot, under nulls too
abbrev pub binary_values : BinaryParts → List (List ℕ)
binary_values a = slot_values (buffer_items a.offsets) (buffer_items a.values)

-- the items: the bytes of each slot that is not null, and None for the others
abbrev pub binary_items : BinaryParts → List (Option (List ℕ))
binary_items a = zipped (binary_values a) (valid_items a.validity)

-- the number of slots between the offsets of a buffer
abbrev pub slots_between : BufferStorage ℤ → ℕ
slots_between offsets = length (lengths_of (buffer_items offsets))

-- the offset after the first `index` slots
abbrev pub slot_offset : BufferStorage ℤ → ℕ → ℕ
slot_offset offsets index = offset_at (start_of (buffer_items offsets)) (lengths_of (buffer_items offsets)) index

-- the number of bytes of the `len` slots from slot `start` on
abbrev pub slots_size : BufferStorage ℤ → ℕ → ℕ → ℕ
slots_size offsets start len = sum (part (lengths_of (buffer_items offsets)) start len)

-- a validity bitmap, where there is one, has a bit for each slot
abbrev pub HasBitPerSlot : BufferStorage ℤ → Option BitmapStorage → Type 0
HasBitPerSlot offsets validity = ForSome validity (λ v. length (items_of v) ≡ slots_between offsets)

-- an array of these parts
abbrev pub binary_parts : DataType → BufferStorage ℤ → BufferStorage ℕ → OptionalValidity → BinaryParts
binary_parts data_type offsets values validity = record {
  data_type = data_type;
  offsets = offsets;
  values = values;
  validity = validity;
}

-- the same with a validity bitmap, or none
abbrev pub binary_of : DataType → BufferStorage ℤ → BufferStorage ℕ → Option BitmapStorage → BinaryParts
binary_of data_type offsets values validity = binary_parts data_type offsets values (record { len = slots_between offsets; bitmap = validity })

-- the offsets of an array begin at 0 and end after the last byte
abbrev pub IsWhole : BinaryParts → Type 0
IsWhole a = (start_of (buffer_items a.offsets) ≡ 0) × (last_of (buffer_items a.offsets) ≡ length (buffer_items a.values))

-- neither the offsets nor the bytes of an array are sliced, and a validity bitmap begins at bit 0
pub record IsUnsliced (a : BinaryParts) : Type 0 where
  pub offsets : a.offsets ≡ whole_buffer a.offsets.storage
  pub values : a.values ≡ whole_buffer a.values.storage
  pub validity : IfSome a.validity.bitmap (λ b. b.offset ≡ 0)

-- an array over its slots alone: nothing that it stores is sliced off, and there is a validity bitmap exactly where an
-- item is null
pub record IsCompact (a : BinaryParts) : Type 0 where
  pub whole : IsWhole a
  pub offsets : a.offsets ≡ whole_buffer (buffer_items a.offsets)
  pub values : a.values ≡ whole_buffer (buffer_items a.values)
  pub validity : IfSome a.validity.bitmap (λ b. IsPacked b)
  pub bitmap : IsNone a.validity.bitmap ↔ (count_by is_none (binary_items a) ≡ 0)

-- the n slots from slot `start` on, over the same storage; they have n + 1 offsets
abbrev pub sliced_binary : BinaryParts → ℕ → ℕ → BinaryParts
sliced_binary a start n = record {
  data_type = a.data_type;
  offsets = record a.offsets { offset = a.offsets.offset + start; len = n + 1 };
  values = a.values;
  validity = sliced_validity a.validity start n;
}

-- how byte strings are laid out, by whether their offsets have 64 bits
abbrev pub binary_layout : Bool → PhysicalType
binary_layout large = if large then Physical.LargeBinary else Physical.Binary

-- how texts are laid out, by whether their offsets have 64 bits
abbrev pub text_layout : Bool → PhysicalType
text_layout large = if large then Physical.LargeUtf8 else Physical.Utf8

-- the logical type of byte strings, unless another one is given
abbrev pub default_binary : Bool → DataType
default_binary large = if large then LargeBinary else Binary

-- the logical type of texts, unless another one is given
abbrev pub default_text : Bool → DataType
default_text large = if large then LargeUtf8 else Utf8
