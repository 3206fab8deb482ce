-- Aggregates of the items that are not null.
use Rattle.std.specs.Prelude.{◌≡◌, ℕ, ◌-◌, ◌*◌, ◌^◌, ◌≤ℤ◌, List, [], ◌∷◌, Option, Some, None, ℤ, pos, ◌+ℤ◌, All, Contains, MatchOption}
use Rattle.std.specs.Option.{option_map_or}
use Rattle.arrow2_walks.specs.Selections.{non_null_values}

-- the sum of the numbers that the values stand for
abbrev pub sum_of : {X : Type 0} → (X → ℤ) → List X → ℤ
sum_of value [] = pos 0
sum_of value (x ∷ xs) = value x +ℤ sum_of value xs

-- the range of sums of n numbers, each a number of at most 64 bits
pub record IsInSumRange (n : ℕ) (total : ℤ) : Type 0 where
  pub low : pos 0 ≤ℤ (total +ℤ pos (n * 2 ^ 63))
  pub high : total ≤ℤ pos (n * (2 ^ 64 - 1))

-- the sum of the numbers that the items that are not null stand for
abbrev pub sum_of_non_null : {X : Type 0} → (X → ℤ) → List (Option X) → ℤ
sum_of_non_null value [] = pos 0
sum_of_non_null value (None ∷ items) = sum_of_non_null value items
sum_of_non_null value (Some x ∷ items) = value x +ℤ sum_of_non_null value items

-- the result is None where each item is null; else it is one of the items that are not null, and `R` relates it to each
-- such item
abbrev pub IsExtremum : {X : Type 0} → (X → X → Type 0) → List (Option X) → Option X → Type 0
IsExtremum R items result = MatchOption result (non_null_values items ≡ []) (λ x. Contains (non_null_values items) x × All (R x) (non_null_values items))

-- the fold of `kept` over the values of a list, where `kept x y` chooses one of two values; it begins with the value in
-- `best`, if there is one
abbrev pub best_from : {X : Type 0} → (X → X → X) → Option X → List X → Option X
best_from kept best [] = best
best_from kept best (x ∷ xs) = best_from kept (Some (option_map_or (λ other. kept other x) best x)) xs
