-- Items of arrays of byte strings and of texts, and the number of their bytes.
use Rattle.std.specs.Prelude.{ℕ, ◌+◌, ◌<◌, ◌≤◌, ◌^◌, ◌⊎◌, List, [], ◌∷◌, ◌++◌, Option, None, Result, flat_map, length, slice_index_or, sum, sum_by}
use Rattle.std.specs.Borrow.{Bor}
use Rattle.std.specs.Option.{option_map_or}
use Rattle.arrow2_model.specs.Lists.{buffer_items, BitmapStorage}
use Rattle.arrow2_offset.specs.Offsets.{lengths_of}
use Rattle.arrow2_text.specs.Binary.{BinaryParts, binary_items, binary_of}
use Rattle.arrow2_text.specs.Growth.{AppendsBinary, GrowingBinary}
use Rattle.arrow2_types.specs.declared.error.Error.{Error}

-- the number of bytes of an item, 0 where it is null
abbrev pub item_bytes : Option (List ℕ) → ℕ
item_bytes item = option_map_or length item 0

-- an array with this validity bitmap, or without one, in place of its own
abbrev pub with_bitmap : BinaryParts → Option BitmapStorage → BinaryParts
with_bitmap a bitmap = binary_of a.data_type a.offsets a.values bitmap

-- the number of bytes of the slots of an array, under nulls too
abbrev pub slot_bytes : BinaryParts → ℕ
slot_bytes a = sum (lengths_of (buffer_items a.offsets))

-- the item at an index
abbrev pub binary_item : BinaryParts → ℕ → Option (List ℕ)
binary_item a index = slice_index_or (binary_items a) index None

-- the items of an array, followed by the items of other arrays
abbrev pub joined_items : BinaryParts → List (Bor BinaryParts) → List (Option (List ℕ))
joined_items first others = binary_items first ++ flat_map (λ array. binary_items array.now) others

-- the number of bytes of the slots of all these arrays, under nulls too
abbrev pub joined_bytes : BinaryParts → List (Bor BinaryParts) → ℕ
joined_bytes first others = slot_bytes first + sum_by (λ array. slot_bytes array.now) others

-- all these arrays together have more bytes than `greatest`, under nulls too, or more items than a `usize` can count
abbrev pub AreTooLarge : ℕ → BinaryParts → List (Bor BinaryParts) → Type 0
AreTooLarge greatest first others = (greatest < joined_bytes first others) ⊎ (2 ^ 64 ≤ length (joined_items first others))

-- growth by one item
abbrev pub AppendsItem : {T : Type 0} → ℕ → Result T Error → (old new : GrowingBinary) → Option (List ℕ) → Type 0
AppendsItem greatest r old new item = AppendsBinary greatest r old new (item ∷ []) (item_bytes item)
