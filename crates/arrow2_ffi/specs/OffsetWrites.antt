-- The code of an export on offsets.
use Rattle.std.specs.Prelude.{◌≡◌, ◌≢◌, ◌+◌, ◌-◌, ◌<◌, ◌≤◌, ℕ, ℤ, pos, ◌↔◌, ◌⊎◌, List, length as len, map}
use Rattle.arrow2_model.specs.Lists.{part}
use Rattle.arrow2_offset.specs.Offsets.{AreOffsets, lengths_of, offsets_list}
use Rattle.arrow2_offset.specs.Failures.{first_broken_rule}
use Rattle.arrow2_ffi.specs.declared.codes.TheConstants.{ARROW2_OK, ARROW2_RANGE, ARROW2_LENGTH}
use Rattle.arrow2_ffi.specs.Rules.{rule_code}

-- the code of a call on the numbers xs that writes if they are offsets and a slice has the length that it needs
-- (`sized`)
pub record WritesFromOffsets (code : ℕ) (xs : List ℤ) (sized written unchanged : Type 0) : Type 0 where
  -- for numbers that are not offsets, `code` is that of the rule which they break first
  pub broken : ¬ AreOffsets xs → code ≡ rule_code (first_broken_rule xs)
  -- for offsets, `code` is ARROW2_LENGTH exactly where `sized` is not true
  pub length : AreOffsets xs → ((code ≡ ARROW2_LENGTH) ↔ ¬ sized)
  -- for offsets, `code` is ARROW2_OK or ARROW2_LENGTH
  pub only : AreOffsets xs → (code ≡ ARROW2_OK) ⊎ (code ≡ ARROW2_LENGTH)
  -- with ARROW2_OK the call wrote what `written` states
  pub ok : code ≡ ARROW2_OK → written
  -- with any other code nothing was written
  pub rejected : code ≢ ARROW2_OK → unchanged

-- the code of a call as of WritesFromOffsets that also needs `within`, and returns the code `other` if that is not true
pub record WritesFromOffsetsOr (code : ℕ) (xs : List ℤ) (sized within : Type 0) (other : ℕ) (written unchanged : Type 0) : Type 0 where
  -- for numbers that are not offsets, `code` is that of the rule which they break first
  pub broken : ¬ AreOffsets xs → code ≡ rule_code (first_broken_rule xs)
  -- for offsets, `code` is ARROW2_LENGTH exactly where `sized` is not true
  pub length : AreOffsets xs → ((code ≡ ARROW2_LENGTH) ↔ ¬ sized)
  -- for offsets, `code` is `other` exactly where `code` is not ARROW2_LENGTH and `within` is not true
  pub second : AreOffsets xs → ((code ≡ other) ↔ ((code ≢ ARROW2_LENGTH) × ¬ within))
  -- for offsets, `code` is ARROW2_OK, ARROW2_LENGTH or `other`
  pub only : AreOffsets xs → (code ≡ ARROW2_OK) ⊎ (code ≡ ARROW2_LENGTH) ⊎ (code ≡ other)
  -- with ARROW2_OK the call wrote what `written` states
  pub ok : code ≡ ARROW2_OK → written
  -- with any other code nothing was written
  pub rejected : code ≢ ARROW2_OK → unchanged

-- the code of a call that writes the lengths of the slots between the numbers xs: with ARROW2_LENGTH the output does
-- not have an item for each slot
abbrev pub WritesLengths : (code : ℕ) (xs : List ℤ) (old new : List ℕ) → Type 0
WritesLengths code xs old new = WritesFromOffsets code xs (len xs ≡ len old + 1) (new ≡ lengths_of xs) (new ≡ old)

-- n of the offsets xs, from index `from` on, each less the first of them
abbrev pub rebased_offsets : List ℤ → ℕ → ℕ → List ℤ
rebased_offsets xs from n = map pos (offsets_list 0 (part (lengths_of xs) from (n - 1)))

-- the code of a call that makes `new` of n rebased offsets: with ARROW2_LENGTH n is 0, with ARROW2_RANGE there are
-- fewer than n numbers from index `from` on
abbrev pub RebasesTo : (code : ℕ) (xs : List ℤ) (from n : ℕ) (new : List ℤ) (unchanged : Type 0) → Type 0
RebasesTo code xs from n new unchanged = WritesFromOffsetsOr code xs (0 < n) (from + n ≤ len xs) ARROW2_RANGE (new ≡ rebased_offsets xs from n) unchanged

-- the code of a call that writes as many rebased offsets as the output has items
abbrev pub WritesRebased : (code : ℕ) (xs : List ℤ) (from : ℕ) (old new : List ℤ) → Type 0
WritesRebased code xs from old new = RebasesTo code xs from (len old) new (new ≡ old)
