-- The result of the check of texts where the numbers are no offsets.
use Rattle.std.proofs.Common.{◌≡◌, ◌∙◌, ℕ, List, length, sym, arith, ℤ}
use Rattle.arrow2_offset.specs.Offsets.{AreOffsets}
use Rattle.arrow2_offset.specs.Failures.{first_broken_rule}
use Rattle.arrow2_offset.specs.declared.check.BrokenRule.{BrokenRule}
use Rattle.arrow2_offset.specs.declared.check.BrokenRule.TheVariants.{Empty, Negative, Falling}
use Rattle.arrow2_ffi.specs.declared.codes.TheConstants.{ARROW2_UTF8}
use Rattle.arrow2_ffi.specs.Cuts.{ChecksOffsets, ChecksTexts}
use Rattle.arrow2_ffi.specs.Rules.{rule_code}

not_utf8 : (rule : BrokenRule) → rule_code rule ≡ ARROW2_UTF8 → ⊥
not_utf8 Empty e = omega (arith, e)
not_utf8 Negative e = omega (arith, e)
not_utf8 Falling e = omega (arith, e)

-- the numbers are no offsets
pub no_offsets : (code : ℕ) (xs : List ℤ) (values : List ℕ) (old new : ℕ) → ChecksOffsets code xs (length values) old new → (AreOffsets xs → ⊥) → ChecksTexts code xs values old new
no_offsets code xs values old new checks broken = record {
  ok = (λ e. absurd (broken (checks.ok.0 e).0), λ h. absurd (broken h.0));
  utf8 = λ e. absurd (not_utf8 (first_broken_rule xs) (sym (checks.broken broken) ∙ e));
  other = λ _ _. checks;
  kept = λ e. absurd (broken (checks.ok.0 e).0);
}
