-- Indices into a dictionary: each is a number or null.
use Rattle.std.specs.Prelude.{◌≡◌, ◌≢◌, ℕ, ◌<◌, ◌↔◌, ◌⊎◌, ℤ, pos, ◌<ℤ◌, ◌≤ℤ◌, List, length, Bool, false, Option, MatchOption, slice_index_or, IsTrue}
use Rattle.arrow2_ffi.specs.declared.codes.TheConstants.{ARROW2_OK, ARROW2_RANGE, ARROW2_INDEX}
use Rattle.arrow2_ffi.specs.Validities.{CoversItems, items_not_null}

-- a number is at least 0 and below n
abbrev pub IsIndex : ℤ → ℕ → Type 0
IsIndex x n = (pos 0 ≤ℤ x) × (x <ℤ pos n)

-- item k is null or an index below n
abbrev pub IsIndexOrNull : List ℤ → List Bool → ℕ → ℕ → Type 0
IsIndexOrNull xs valid n k = IsTrue (slice_index_or valid k false) → IsIndex (slice_index_or xs k (pos 0)) n

-- item k is the first that is neither null nor an index below n
pub record IsFirstOutside (xs : List ℤ) (valid : List Bool) (n k : ℕ) : Type 0 where
  pub inside : k < length xs
  pub before : (j : ℕ) → j < k → IsIndexOrNull xs valid n j
  pub outside : ¬ IsIndexOrNull xs valid n k

-- the result of a search for an item that is neither null nor an index below n: none where there is no such item, else
-- the first
abbrev pub FindsFirstOutside : (result : Option ℕ) (xs : List ℤ) (validity : Option (List ℕ × ℕ)) (n : ℕ) → Type 0
FindsFirstOutside result xs validity n = MatchOption result ((k : ℕ) → k < length xs → IsIndexOrNull xs (items_not_null validity (length xs)) n k) (λ slot. IsFirstOutside xs (items_not_null validity (length xs)) n slot)

-- the code of a check that items are indices below n or null, and the slot that it writes
pub record ChecksIndices (code : ℕ) (xs : List ℤ) (validity : Option (List ℕ × ℕ)) (n old new : ℕ) : Type 0 where
  -- `code` is ARROW2_RANGE exactly where the validity has too few bits
  pub range : (code ≡ ARROW2_RANGE) ↔ ¬ CoversItems validity (length xs)
  -- `code` is ARROW2_OK exactly where the validity has a bit for each item, and each item is null or an index
  pub ok : (code ≡ ARROW2_OK) ↔ (CoversItems validity (length xs) × ((k : ℕ) → k < length xs → IsIndexOrNull xs (items_not_null validity (length xs)) n k))
  -- `code` is ARROW2_OK, ARROW2_RANGE or ARROW2_INDEX
  pub only : (code ≡ ARROW2_OK) ⊎ (code ≡ ARROW2_RANGE) ⊎ (code ≡ ARROW2_INDEX)
  -- with ARROW2_INDEX, `new` is the first item that is neither null nor an index
  pub index : code ≡ ARROW2_INDEX → IsFirstOutside xs (items_not_null validity (length xs)) n new
  -- with any other code the slot is not written
  pub kept : code ≢ ARROW2_INDEX → new ≡ old
