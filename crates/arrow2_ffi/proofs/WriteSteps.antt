-- The state after a call of an export, for each of its codes.
use Rattle.std.proofs.Common.{inl, refl, arith}
use Rattle.arrow2_ffi.specs.declared.codes.TheConstants.{ARROW2_OK}
use Rattle.arrow2_ffi.specs.Writes.{Writes}

module _ {inside holds done unchanged : Type 0} where
  -- the call succeeded
  pub wrote : inside → holds → done → Writes ARROW2_OK inside holds done unchanged
  wrote all as_many is = record {
    range = (λ e. absurd (omega (arith, e)), λ out. absurd (out all));
    length = (λ e. absurd (omega (arith, e)), λ h. absurd (h.1 as_many));
    only = inl refl;
    ok = λ _. is;
    rejected = λ other. absurd (other refl);
  }
