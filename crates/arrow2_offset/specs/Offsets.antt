-- Offsets: where the value of each slot begins (Arrow columnar format, "Variable-size Binary Layout": slot j spans
-- offset j to offset j + 1, so that n slots have n + 1 offsets, which never decrease).
use Rattle.std.specs.Prelude.{◌≡◌, ℕ, ◌+◌, ◌<◌, ◌≤◌, ◌++◌, ℤ, pos, ◌≤ℤ◌, List, [], ◌∷◌, length, map, sum, take, slice_index_or, unsigned_abs}
use Rattle.std.specs.Int.{int_gap}
use Rattle.arrow2_model.specs.Lists.{BufferStorage}

-- start + the first length, then + the second, and so on
unfoldable pub running_sums : ℕ → List ℕ → List ℕ
running_sums start [] = []
running_sums start (n ∷ lengths) = (start + n) ∷ running_sums (start + n) lengths

-- the list of offsets: the start, followed by the running sums of the lengths
abbrev pub offsets_list : ℕ → List ℕ → List ℕ
offsets_list start lengths = start ∷ running_sums start lengths

-- the offset after the first k slots
abbrev pub offset_at : ℕ → List ℕ → ℕ → ℕ
offset_at start lengths k = start + sum (take k lengths)

-- the last offset
abbrev pub last_offset : ℕ → List ℕ → ℕ
last_offset start lengths = start + sum lengths

-- which lists of whole numbers are offsets: at least one item, none negative, none below the one before it
pub record AreOffsets (xs : List ℤ) : Type 0 where
  pub some : 0 < length xs
  pub natural : (k : ℕ) → k < length xs → pos 0 ≤ℤ slice_index_or xs k (pos 0)
  pub rising : (k : ℕ) → k + 1 < length xs → slice_index_or xs k (pos 0) ≤ℤ slice_index_or xs (k + 1) (pos 0)

-- the first of a list of offsets
abbrev pub start_of : List ℤ → ℕ
start_of xs = unsigned_abs (slice_index_or xs 0 (pos 0))

-- the gaps of the list x ∷ xs: how far each item is above the one before it, or 0 where it is below
unfoldable pub gaps_after : ℤ → List ℤ → List ℕ
gaps_after x [] = []
gaps_after x (y ∷ ys) = int_gap x y ∷ gaps_after y ys

-- the lengths that a list of offsets spells: how far each item is above the one before it
unfoldable pub lengths_of : List ℤ → List ℕ
lengths_of [] = []
lengths_of (x ∷ xs) = gaps_after x xs

-- the last of a list of offsets
abbrev pub last_of : List ℤ → ℕ
last_of xs = last_offset (start_of xs) (lengths_of xs)

-- offsets that grow: the start, the lengths, and how many lengths fit before it allocates
pub record GrowingOffsets : Type 0 where
  pub start : ℕ
  pub lengths : List ℕ
  pub capacity : ℕ

-- their list
abbrev pub offsets_of : GrowingOffsets → List ℕ
offsets_of o = offsets_list o.start o.lengths

-- the last of them
abbrev pub last_of_growing : GrowingOffsets → ℕ
last_of_growing o = last_offset o.start o.lengths

-- the same buffer, with each machine number replaced by the integer that it stands for
abbrev pub numbers_of : {X : Type 0} → (X → ℤ) → BufferStorage X → BufferStorage ℤ
numbers_of value b = record { storage = map value b.storage; offset = b.offset; len = b.len }

-- the number of slots of growing offsets: one for each length
abbrev pub slots : GrowingOffsets → ℕ
slots o = length o.lengths

-- the same offsets, whatever their capacity
abbrev pub SameOffsets : GrowingOffsets → GrowingOffsets → Type 0
SameOffsets old new = (new.start ≡ old.start) × (new.lengths ≡ old.lengths)

-- offsets that have grown by some lengths: these are appended, and the start stays; nothing is stated of the capacity
abbrev pub GrownBy : List ℕ → GrowingOffsets → GrowingOffsets → Type 0
GrownBy ns old new = (new.start ≡ old.start) × (new.lengths ≡ old.lengths ++ ns)

-- offsets, each at most the greatest one of their type
abbrev pub AreOffsetsUpTo : ℕ → List ℤ → Type 0
AreOffsetsUpTo max xs = AreOffsets xs × (last_of xs ≤ max)
