-- Casts of numbers from one type to another: `value` and `other` give the whole number that an item of each type stands
-- for, and `fits` states which numbers the other type has.
use Rattle.std.specs.Prelude.{◌≡◌, ℕ, ℤ, List, ◌++◌, Option, Some, None, IsNone, All, take, slice_index_or, codes, decimal}
use Rattle.num_traits.specs.Laws.{Checks}

-- a null stays null, a number that fits stays the same number, and a number that does not fit becomes null
abbrev pub IsCast : {X Y : Type 0} → (X → ℤ) → (Y → ℤ) → (ℤ → Type 0) → Option X → Option Y → Type 0
IsCast value other fits None result = IsNone result
IsCast value other fits (Some x) result = Checks other fits (value x) result

-- a null stays null, and a number stays the same number
abbrev pub IsSameNumber : {X Y : Type 0} → (X → ℤ) → (Y → ℤ) → Option X → Option Y → Type 0
IsSameNumber value other None result = IsNone result
IsSameNumber value other (Some x) None = ⊥
IsSameNumber value other (Some x) (Some y) = other y ≡ value x

-- an item is null, or its number fits
abbrev pub Fits : {X : Type 0} → (X → ℤ) → (ℤ → Type 0) → Option X → Type 0
Fits value fits None = Unit {0}
Fits value fits (Some x) = fits (value x)

-- the item at this index is the first whose number does not fit
pub record IsFirstMisfit {X : Type 0} (value : X → ℤ) (fits : ℤ → Type 0) (items : List (Option X)) (index : ℕ) : Type 0 where
  pub others : All (Fits value fits) (take index items)
  pub this : ¬ (Fits value fits (slice_index_or items index None))

-- the message for this item
unfoldable pub not_fitting_message : ℕ → List ℕ
not_fitting_message index = codes "item " ++ (decimal index ++ codes " does not fit the type")
