-- Offsets together with what they index: the code of a check, and the index that it writes.
use Rattle.std.specs.Prelude.{◌≡◌, ◌≢◌, ℕ, ◌+◌, ◌-◌, ◌<◌, ◌≤◌, ◌↔◌, ℤ, pos, ◌<ℤ◌, ◌≤ℤ◌, List, length, slice_index_or}
use Rattle.arrow2_offset.specs.Offsets.{AreOffsets, last_of}
use Rattle.arrow2_offset.specs.Failures.{first_broken_rule}
use Rattle.arrow2_utf8.specs.Texts.{AreTexts, IsFirstNonUtf8, slot_values}
use Rattle.arrow2_ffi.specs.declared.codes.TheConstants.{ARROW2_OK, ARROW2_PAST, ARROW2_SPEC_FALLING, ARROW2_UTF8}
use Rattle.arrow2_ffi.specs.Rules.{rule_code}

-- number k is the first that is below the one before it
pub record IsFirstFalling (xs : List ℤ) (k : ℕ) : Type 0 where
  pub some : 0 < k
  pub inside : k < length xs
  pub before : (j : ℕ) → j + 1 < k → slice_index_or xs j (pos 0) ≤ℤ slice_index_or xs (j + 1) (pos 0)
  pub falls : slice_index_or xs k (pos 0) <ℤ slice_index_or xs (k - 1) (pos 0)

-- number k is the first that is above n
pub record IsFirstPast (xs : List ℤ) (n k : ℕ) : Type 0 where
  pub inside : k < length xs
  pub before : (j : ℕ) → j < k → slice_index_or xs j (pos 0) ≤ℤ pos n
  pub past : pos n <ℤ slice_index_or xs k (pos 0)

-- the code of a check that numbers are offsets into n items, and the index that it writes
pub record ChecksOffsets (code : ℕ) (xs : List ℤ) (n old new : ℕ) : Type 0 where
  -- `code` is ARROW2_OK exactly where the numbers are offsets and the last one is at most n
  pub ok : (code ≡ ARROW2_OK) ↔ (AreOffsets xs × (last_of xs ≤ n))
  -- for numbers that are not offsets, `code` is that of the rule which they break first
  pub broken : ¬ AreOffsets xs → code ≡ rule_code (first_broken_rule xs)
  -- for offsets whose last one is above n, `code` is ARROW2_PAST
  pub past : AreOffsets xs → n < last_of xs → code ≡ ARROW2_PAST
  -- with ARROW2_SPEC_FALLING, `new` is the index of the first number that is below the one before it
  pub falling : code ≡ ARROW2_SPEC_FALLING → IsFirstFalling xs new
  -- with ARROW2_PAST, `new` is the index of the first number that is above n
  pub past_index : code ≡ ARROW2_PAST → IsFirstPast xs n new
  -- with any other code the index is not written
  pub kept : code ≢ ARROW2_SPEC_FALLING → code ≢ ARROW2_PAST → new ≡ old

-- the code of a check that numbers are offsets, and that the values of each slot are UTF-8
pub record ChecksTexts (code : ℕ) (xs : List ℤ) (values : List ℕ) (old new : ℕ) : Type 0 where
  -- `code` is ARROW2_OK exactly where the numbers are offsets, none is above the number of values, and the values of
  -- each slot are UTF-8
  pub ok : (code ≡ ARROW2_OK) ↔ (AreOffsets xs × AreTexts xs values)
  -- with ARROW2_UTF8 the numbers are offsets, none is above the number of values, and `new` is the first slot whose
  -- values are not UTF-8
  pub utf8 : code ≡ ARROW2_UTF8 → AreOffsets xs × (last_of xs ≤ length values) × IsFirstNonUtf8 (slot_values xs values) new
  -- any other code but ARROW2_OK is that of the check of the offsets alone
  pub other : code ≢ ARROW2_OK → code ≢ ARROW2_UTF8 → ChecksOffsets code xs (length values) old new
  -- with ARROW2_OK the index is not written
  pub kept : code ≡ ARROW2_OK → new ≡ old
