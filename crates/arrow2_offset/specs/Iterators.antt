-- Iterators that may yield lengths past the greatest offset, or more lengths than the spare capacity.
use Rattle.std.specs.Prelude.{ℕ, ◌+◌, ◌<◌, List, Option, length, sum}
use Rattle.std.specs.Iterator.{Yields}

-- the contract of the iterator allows it to yield lengths `ns` (a whole run, or the beginning of one) whose sum plus
-- `last` is above `max`
abbrev pub MayYieldPast : {S : Type 0} → ℕ → ℕ → (S → Option ℕ → S → Type 0) → S → Type 0
MayYieldPast {S} max last steps s = (ns : List ℕ) × (t : S) × Yields steps s ns t × (max < last + sum ns)

-- the iterator may yield more lengths than the spare capacity: `ns` is all that it may yield, or a prefix of that
abbrev pub MayYieldMoreThan : {S : Type 0} → ℕ → (S → Option ℕ → S → Type 0) → S → Type 0
MayYieldMoreThan {S} spare steps s = (ns : List ℕ) × (t : S) × Yields steps s ns t × (spare < length ns)
