-- The state after a call on offsets, for each of its codes.
use Rattle.std.proofs.Common.{◌≢◌, ℕ, List, inl, inr, refl, arith, ℤ}
use Rattle.arrow2_offset.specs.Offsets.{AreOffsets}
use Rattle.arrow2_ffi.specs.declared.codes.TheConstants.{ARROW2_OK, ARROW2_LENGTH}
use Rattle.arrow2_ffi.specs.OffsetWrites.{WritesFromOffsets, WritesFromOffsetsOr}
use Rattle.arrow2_ffi.specs.Rules.{ReportsBrokenRule}

-- ---- with one code for offsets

-- the numbers are not offsets
pub not_offsets : {sized done unchanged : Type 0} (xs : List ℤ) (code : ℕ) → ReportsBrokenRule code xs → unchanged → WritesFromOffsets code xs sized done unchanged
not_offsets xs code stated same = record {
  broken = λ _. stated.rule;
  length = λ are. absurd (stated.broken are);
  only = λ are. absurd (stated.broken are);
  ok = λ e. absurd (stated.other e);
  rejected = λ _. same;
}

-- the slice does not have the length
pub ill_fitting : {sized done unchanged : Type 0} (xs : List ℤ) → AreOffsets xs → (sized → ⊥) → unchanged → WritesFromOffsets ARROW2_LENGTH xs sized done unchanged
ill_fitting xs are mis same = record {
  broken = λ out. absurd (out are);
  length = λ _. (λ _. mis, λ _. refl);
  only = λ _. inr refl;
  ok = λ e. absurd (omega (arith, e));
  rejected = λ _. same;
}

-- the call succeeded
pub written : {sized done unchanged : Type 0} (xs : List ℤ) → AreOffsets xs → sized → done → WritesFromOffsets ARROW2_OK xs sized done unchanged
written xs are fit is = record {
  broken = λ out. absurd (out are);
  length = λ _. (λ e. absurd (omega (arith, e)), λ mis. absurd (mis fit));
  only = λ _. inl refl;
  ok = λ _. is;
  rejected = λ other. absurd (other refl);
}

-- ---- with a second one

-- the numbers are not offsets
pub not_offsets_or : {sized within done unchanged : Type 0} (second : ℕ) (xs : List ℤ) (code : ℕ) → ReportsBrokenRule code xs → unchanged → WritesFromOffsetsOr code xs sized within second done unchanged
not_offsets_or second xs code stated same = record {
  broken = λ _. stated.rule;
  length = λ are. absurd (stated.broken are);
  second = λ are. absurd (stated.broken are);
  only = λ are. absurd (stated.broken are);
  ok = λ e. absurd (stated.other e);
  rejected = λ _. same;
}

-- the slice does not have the length
pub ill_fitting_or : {sized within done unchanged : Type 0} (second : ℕ) (xs : List ℤ) → second ≢ ARROW2_LENGTH → AreOffsets xs → (sized → ⊥) → unchanged → WritesFromOffsetsOr ARROW2_LENGTH xs sized within second done unchanged
ill_fitting_or second xs apart are mis same = record {
  broken = λ out. absurd (out are);
  length = λ _. (λ _. mis, λ _. refl);
  second = λ _. (λ e. absurd (omega (arith, e, apart)), λ h. absurd (h.0 refl));
  only = λ _. inr (inl refl);
  ok = λ e. absurd (omega (arith, e));
  rejected = λ _. same;
}

-- something is not within the bound
pub beyond_or : {sized within done unchanged : Type 0} (second : ℕ) (xs : List ℤ) → second ≢ ARROW2_LENGTH → second ≢ ARROW2_OK → AreOffsets xs → sized → (within → ⊥) → unchanged → WritesFromOffsetsOr second xs sized within second done unchanged
beyond_or second xs apart not_ok are fit over same = record {
  broken = λ out. absurd (out are);
  length = λ _. (λ e. absurd (apart e), λ mis. absurd (mis fit));
  second = λ _. (λ _. (apart, over), λ _. refl);
  only = λ _. inr (inr refl);
  ok = λ e. absurd (not_ok e);
  rejected = λ _. same;
}

-- the call succeeded
pub written_or : {sized within done unchanged : Type 0} (second : ℕ) (xs : List ℤ) → second ≢ ARROW2_OK → AreOffsets xs → sized → within → done → WritesFromOffsetsOr ARROW2_OK xs sized within second done unchanged
written_or second xs not_ok are fit under is = record {
  broken = λ out. absurd (out are);
  length = λ _. (λ e. absurd (omega (arith, e)), λ mis. absurd (mis fit));
  second = λ _. (λ e. absurd (omega (arith, e, not_ok)), λ h. absurd (h.1 under));
  only = λ _. inl refl;
  ok = λ _. is;
  rejected = λ other. absurd (other refl);
}
