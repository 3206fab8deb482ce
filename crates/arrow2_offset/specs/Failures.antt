-- The errors of calls on offsets.
use Rattle.std.specs.Prelude.{◌≡◌, ℕ, ℤ, pos, negsuc, List, [], ◌∷◌, codes, string_bytes}
use Rattle.arrow2_offset.specs.Offsets.{AreOffsets}
use Rattle.arrow2_offset.specs.declared.check.BrokenRule.{BrokenRule}
use Rattle.arrow2_offset.specs.declared.check.BrokenRule.TheVariants.{Empty, Negative, Falling}
use Rattle.arrow2_types.specs.declared.error.Error.{Error}
use Rattle.arrow2_types.specs.declared.error.Error.TheVariants.{OutOfSpec, OutOfMemory}

-- for a list that is not offsets, the first rule that it breaks: that there is a number; else that the first number is
-- not negative; else that no number is below the one before it, which is then the only rule left and needs no test
abbrev pub first_broken_rule : List ℤ → BrokenRule
first_broken_rule [] = Empty
first_broken_rule (negsuc n ∷ xs) = Negative
first_broken_rule (pos n ∷ xs) = Falling

-- the message for a broken rule, which is arrow2's text: in it, "larger than 0" stands for not negative, and
-- "monotonically increasing" for none below the one before it
abbrev pub rule_words : BrokenRule → List ℕ
rule_words Empty = codes "offsets must have at least one element"
rule_words Negative = codes "offsets must be larger than 0"
rule_words Falling = codes "offsets must be monotonically increasing"

-- the message for a list that is not offsets, by the first rule that the list breaks
abbrev pub not_offsets_message : List ℤ → List ℕ
not_offsets_message xs = rule_words (first_broken_rule xs)

-- an `OutOfSpec` error with this message; or `OutOfMemory`, on which this sets no condition
abbrev pub IsOutOfSpecOrOutOfMemory : Error → List ℕ → Type 0
IsOutOfSpecOrOutOfMemory (OutOfSpec text) words = string_bytes text ≡ words
IsOutOfSpecOrOutOfMemory OutOfMemory words = Unit {0}
IsOutOfSpecOrOutOfMemory _ words = ⊥

-- the error of a conversion that fails exactly where the numbers are not offsets
abbrev pub RejectsNumbers : Error → List ℤ → Type 0
RejectsNumbers e xs = ¬ AreOffsets xs × IsOutOfSpecOrOutOfMemory e (not_offsets_message xs)

-- the error of a conversion that may also run out of memory where the numbers are offsets
abbrev pub RejectsOrRunsOut : Error → List ℤ → Type 0
RejectsOrRunsOut e xs = IsOutOfSpecOrOutOfMemory e (not_offsets_message xs) × (AreOffsets xs → e ≡ OutOfMemory)
