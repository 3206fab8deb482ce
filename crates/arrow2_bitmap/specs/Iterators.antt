-- Iterators that may give more items than a length counts.
use Rattle.std.specs.Prelude.{◌≡◌, ◌-◌, ◌^◌, List, Option, Some, length}
use Rattle.std.specs.Iterator.{YieldsThen}

-- the iterator may give 2 ^ 64 - 1 items, and then one more
abbrev pub MayYieldTooMany : {S X : Type 0} → (S → Option X → S → Type 0) → S → Type 0
MayYieldTooMany {S} {X} steps s = (xs : List X) × (x : X) × (t : S) × YieldsThen steps s xs (Some x) t × (length xs ≡ 2 ^ 64 - 1)
