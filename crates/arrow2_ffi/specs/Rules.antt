-- The code for a list that is not offsets.
use Rattle.std.specs.Prelude.{◌≡◌, ◌≢◌, ℕ, ℤ, List}
use Rattle.arrow2_offset.specs.Offsets.{AreOffsets}
use Rattle.arrow2_offset.specs.Failures.{first_broken_rule}
use Rattle.arrow2_offset.specs.declared.check.BrokenRule.{BrokenRule}
use Rattle.arrow2_offset.specs.declared.check.BrokenRule.TheVariants.{Empty, Negative, Falling}
use Rattle.arrow2_ffi.specs.declared.codes.TheConstants.{ARROW2_OK, ARROW2_SPEC_EMPTY, ARROW2_SPEC_NEGATIVE, ARROW2_SPEC_FALLING}

-- the code for the rule that a list breaks first
abbrev pub rule_code : BrokenRule → ℕ
rule_code Empty = ARROW2_SPEC_EMPTY
rule_code Negative = ARROW2_SPEC_NEGATIVE
rule_code Falling = ARROW2_SPEC_FALLING

-- `code` is the one for a list that is not offsets
pub record ReportsBrokenRule (code : ℕ) (xs : List ℤ) : Type 0 where
  -- the list is not offsets
  pub broken : ¬ AreOffsets xs
  -- `code` is that of the rule which the list breaks first
  pub rule : code ≡ rule_code (first_broken_rule xs)
  -- `code` is not ARROW2_OK
  pub other : code ≢ ARROW2_OK
