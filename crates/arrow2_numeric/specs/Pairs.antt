-- Results for two items, one of each of two arrays.
use Rattle.std.specs.Prelude.{◌≡◌, ℕ, List, Bool, Option, Some, None, slice_index_or}

-- the result of f for both items, and None where one of them is null
abbrev pub of_both : {X Y Z : Type 0} → (X → Y → Z) → Option X → Option Y → Option Z
of_both f None y = None
of_both f (Some x) None = None
of_both f (Some x) (Some y) = Some (f x y)

-- whatever a closure returns for two items is the result of `test` for them
abbrev pub AlwaysReturns : {X Y : Type 0} → (X → Y → Bool → Type 0) → (X → Y → Bool) → Type 0
AlwaysReturns {X} {Y} returns test = (x : X) (y : Y) (result : Bool) → returns x y result → result ≡ test x y

-- the result that a closure returned for the items of two lists at an index
pub record IsTestedAt {X Y : Type 0} (xs : List X) (ys : List Y) (returns : X → Y → Bool → Type 0) (index : ℕ) (result : Bool) : Type 0 where
  pub left : X
  pub right : Y
  pub is_left : slice_index_or xs index left ≡ left
  pub is_right : slice_index_or ys index right ≡ right
  pub returned : returns left right result
