-- The models of boolean arrays.
use Rattle.std.specs.Prelude.{ℕ, List, Bool, Option, count_by, is_none}
use Rattle.arrow2_model.specs.Lists.{BitmapStorage, items_of}
use Rattle.arrow2_walks.specs.Zipped.{zipped}
use Rattle.arrow2_validity.specs.OptionalValidity.{OptionalValidity, valid_items, sliced_bitmap, sliced_validity}

-- an array: its values, and which of them are not null
pub record BooleanParts : Type 0 where
  pub values : BitmapStorage
  pub validity : OptionalValidity

-- the items: each value that is not null, and None for the others
abbrev pub boolean_items : BooleanParts → List (Option Bool)
boolean_items a = zipped (items_of a.values) (valid_items a.validity)

-- the n items from item `offset` on, over the same bytes
abbrev pub sliced_boolean : BooleanParts → ℕ → ℕ → BooleanParts
sliced_boolean a offset n = record { values = sliced_bitmap a.values offset n; validity = sliced_validity a.validity offset n }

-- the number of null items (Arrow columnar format, "Null count")
abbrev pub nulls : List (Option Bool) → ℕ
nulls items = count_by is_none items

-- an array that grows: its items, and how many fit before it allocates
pub record GrowingBoolean : Type 0 where
  pub items : List (Option Bool)
  pub capacity : ℕ
