-- The bytes between offsets, and their faults (Arrow columnar format, "Variable-size Binary Layout").
use Rattle.std.specs.Prelude.{◌≡◌, ℕ, ◌<◌, ◌≤◌, ℤ, List, [], length, take, drop, slice_index_or, All, IsUtf8}
use Rattle.arrow2_offset.specs.NestedLists.{cut}
use Rattle.arrow2_offset.specs.Offsets.{AreOffsets, start_of, lengths_of, last_of}
use Rattle.arrow2_offset.specs.Failures.{first_broken_rule}
use Rattle.arrow2_utf8.specs.declared.specification.BrokenTexts.{BrokenTexts}
use Rattle.arrow2_utf8.specs.declared.specification.BrokenTexts.TheVariants.{PastTheValues, NotUtf8}
use Rattle.arrow2_utf8.specs.declared.specification.BrokenTextArray.{BrokenTextArray}
use Rattle.arrow2_utf8.specs.declared.specification.BrokenTextArray.TheVariants.{Offsets, Texts}

-- the values of each slot, from its offset to the next
abbrev pub slot_values : List ℤ → List ℕ → List (List ℕ)
slot_values offsets values = cut (drop (start_of offsets) values) (lengths_of offsets)

-- no offset is past the values, and the values of each slot are UTF-8
pub record AreTexts (offsets : List ℤ) (values : List ℕ) : Type 0 where
  pub inside : last_of offsets ≤ length values
  pub texts : All IsUtf8 (slot_values offsets values)

-- list k of bytes is the first that is not UTF-8
pub record IsFirstNonUtf8 (texts : List (List ℕ)) (k : ℕ) : Type 0 where
  pub inside : k < length texts
  pub before : All IsUtf8 (take k texts)
  pub broken : IsUtf8 (slice_index_or texts k []) → ⊥

-- the fault of the values between offsets: the last offset is past them, or the first slot is not UTF-8
abbrev pub ReportsBrokenTexts : List ℤ → List ℕ → BrokenTexts → Type 0
ReportsBrokenTexts offsets values PastTheValues = length values < last_of offsets
ReportsBrokenTexts offsets values (NotUtf8 k) = (last_of offsets ≤ length values) × IsFirstNonUtf8 (slot_values offsets values) k

-- the same for numbers that may not be offsets: where they are not, the fault is the rule of `first_broken_rule`
abbrev pub ReportsBrokenArray : List ℤ → List ℕ → BrokenTextArray → Type 0
ReportsBrokenArray numbers values (Offsets rule) = (AreOffsets numbers → ⊥) × (rule ≡ first_broken_rule numbers)
ReportsBrokenArray numbers values (Texts broken) = AreOffsets numbers × ReportsBrokenTexts numbers values broken
