-- The errors for parts that are no array.
use Rattle.std.specs.Prelude.{◌≡◌, ℕ, List, ℤ, Option, codes, length, Result, OnOk}
use Rattle.std.specs.Option.{ForSome}
use Rattle.arrow2_model.specs.Lists.{BufferStorage, BitmapStorage, items_of}
use Rattle.arrow2_types.specs.declared.error.Error.{Error}
use Rattle.arrow2_types.specs.Failures.{FailsOnlyWith, OnlyOutOfMemory}
use Rattle.arrow2_validity.specs.Failures.{unequal_lengths_message}
use Rattle.arrow2_text.specs.Binary.{HasBitPerSlot, slots_between}

-- the message where the last offset is past the values
abbrev pub past_the_values_message : List ℕ
past_the_values_message = codes "offsets must not exceed the values length"

-- the message where the logical type of byte strings has another layout
abbrev pub other_binary_layout_message : List ℕ
other_binary_layout_message = codes "BinaryArray can only be initialized with DataType::Binary or DataType::LargeBinary"

-- the message where the logical type of texts has another layout
abbrev pub other_text_layout_message : List ℕ
other_text_layout_message = codes "Utf8Array can only be initialized with DataType::Utf8 or DataType::LargeUtf8"

-- the message where a slot is not UTF-8
abbrev pub not_utf8 : List ℕ
not_utf8 = codes "the values of each slot must be UTF-8"

-- how parts of an array are rejected: `Fits` states that the values fit the offsets, which is checked first, and
-- `LaidOut` that the logical type has the layout of the array
pub record RejectsParts {T : Type 0} (r : Result T Error) (offsets : BufferStorage ℤ) (validity : Option BitmapStorage) (Fits LaidOut : Type 0) (other_layout : List ℕ) : Type 0 where
  -- parts that are accepted fit
  pub accepted : OnOk r (Fits × HasBitPerSlot offsets validity × LaidOut)
  -- a validity of another length is rejected first, then another layout
  pub unequal : Fits → ForSome validity (λ v. ¬ (length (items_of v) ≡ slots_between offsets) → FailsOnlyWith r (unequal_lengths_message (length (items_of v)) (slots_between offsets)))
  pub layout : Fits → HasBitPerSlot offsets validity → ¬ LaidOut → FailsOnlyWith r other_layout
  -- for parts that fit, the only error is running out of memory
  pub only : Fits → HasBitPerSlot offsets validity → LaidOut → OnlyOutOfMemory r
