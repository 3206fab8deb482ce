-- Items at indices that may be null.
use Rattle.std.specs.Prelude.{◌≡◌, ◌≤ℤ◌, ◌<ℤ◌, ℕ, ℤ, pos, List, Option, Some, None, map, slice_index_or, unsigned_abs}

-- an index is null, or at least 0 and below n: `value` gives the whole number that it stands for
abbrev pub IsInBoundsOrNull : {I : Type 0} → (I → ℤ) → ℕ → Option I → Type 0
IsInBoundsOrNull value n None = Unit {0}
IsInBoundsOrNull value n (Some index) = (pos 0 ≤ℤ value index) × (value index <ℤ pos n)

-- the item at an index, and none where the index is null
abbrev pub item_at : {I X : Type 0} → (I → ℤ) → List (Option X) → Option I → Option X
item_at value items None = None
item_at value items (Some index) = slice_index_or items (unsigned_abs (value index)) None

-- the items at indices, in the order of the indices
abbrev pub items_by_index : {I X : Type 0} → (I → ℤ) → List (Option X) → List (Option I) → List (Option X)
items_by_index value items indices = map (item_at value items) indices

-- what a function returns is always the outcome
abbrev pub ReturnsAlways : {X Y : Type 0} → (X → Y → Type 0) → (X → Y) → Type 0
ReturnsAlways {X} {Y} returns outcome = (x : X) (y : Y) → returns x y → y ≡ outcome x

-- `x` is the item at `index`
abbrev pub IsItemAt : {X : Type 0} → List X → ℕ → X → Type 0
IsItemAt items index x = slice_index_or items index x ≡ x
