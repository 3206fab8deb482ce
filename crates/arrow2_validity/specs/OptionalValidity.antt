-- Which items of an array are not null (Arrow columnar format, "Validity bitmaps": an array without nulls may have no
-- bitmap).
use Rattle.std.specs.Prelude.{ℕ, ◌+◌, List, Bool, true, Option, Some, None, option_map, replicate}
use Rattle.arrow2_model.specs.Lists.{BitmapStorage, items_of}

-- the number of items, and the bitmap of those that are not null: without one none is null
pub record OptionalValidity : Type 0 where
  pub len : ℕ
  pub bitmap : Option BitmapStorage

-- a bitmap's items, or n true ones where there is none
unfoldable pub items_or_true : ℕ → Option BitmapStorage → List Bool
items_or_true n None = replicate n true
items_or_true n (Some bitmap) = items_of bitmap

-- item by item whether it is not null
abbrev pub valid_items : OptionalValidity → List Bool
valid_items v = items_or_true v.len v.bitmap

-- the n items of a bitmap from item `offset` on, over the same bytes
abbrev pub sliced_bitmap : BitmapStorage → ℕ → ℕ → BitmapStorage
sliced_bitmap b offset n = record { bytes = b.bytes; offset = b.offset + offset; len = n }

-- the validity of the n items from item `offset` on, with its bitmap over the same bytes
abbrev pub sliced_validity : OptionalValidity → ℕ → ℕ → OptionalValidity
sliced_validity v offset n = record { len = n; bitmap = option_map (λ b. sliced_bitmap b offset n) v.bitmap }
