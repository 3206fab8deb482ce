-- Slots that are appended within the capacity.
use Rattle.std.proofs.Common.{◌≡◌, ℕ, ◌≤◌, ◌<◌, ◌+◌, ◌^◌, inl, inr, List, ◌++◌, Bool, length, ap, subst, sym, refl, ◌∙◌, arith, IsErr, IsErrAnd, Result, Ok, Err}
use Rattle.arrow2_types.specs.declared.error.Error.{Error}
use Rattle.arrow2_text.specs.Growth.{AppendsSlots, GrowingSlots, GrownBySlots, HasCapacityFor, ReservesSlots}

-- reserved capacity holds the slots and bytes it was reserved for
pub capacity-for : {T : Type 0} (max : ℕ) (old new : GrowingSlots) (slots bytes n : ℕ) (u : T) → n ≡ bytes → ReservesSlots max (Ok u) old new slots n → HasCapacityFor max new slots bytes
capacity-for max old new slots bytes n u size r =
    let count = ap length r.valid in
    let few : 2 ^ 64 ≤ length old.valid + slots → ⊥ = λ h. let never = r.overflow.1 (inr h) in cc in
    let below : max < old.bytes + n → ⊥ = λ h. let never = r.overflow.1 (inl h) in cc in
    record {
      slots = omega (arith, count, r.ok);
      bytes = omega (arith, size, r.bytes, r.ok_bytes);
      counted = omega (arith, count, few);
      fits = omega (arith, size, r.bytes, below);
    }

module _ {T : Type 0} (max : ℕ) (old new : GrowingSlots) (values : List (List ℕ)) (valid : List Bool) (slots bytes n : ℕ) (count : slots ≡ length valid) (size : n ≡ bytes) where
  -- they are appended where it was
  pub appended : (mid : GrowingSlots) (u v : T) → ReservesSlots max (Ok u) old mid slots n → GrownBySlots mid new values valid bytes → AppendsSlots max (Ok v) old new values valid bytes
  appended mid u v r g = record {
    same = r.same;
    ok_values = g.values ∙ ap (λ l. l ++ values) r.values;
    ok_valid = g.valid ∙ ap (λ l. l ++ valid) r.valid;
    ok_bytes = g.bytes ∙ ap (λ k. k + bytes) r.bytes;
    err_values = tt;
    err_valid = tt;
    err_bytes = tt;
    data_type = g.data_type ∙ r.data_type;
    fits = r.fits;
    overflow = (λ is. cc, λ past. let never = r.overflow.1 (rw (count, size) past) in cc);
    only = tt;
    succeeds = λ a b c. refl;
    capacity = omega (arith, r.capacity, g.capacity);
    byte_capacity = omega (arith, r.byte_capacity, g.byte_capacity);
  }

  failed-by : (e : Error) → ReservesSlots {T = T} max (Err e) old new slots n → AppendsSlots {T = T} max (Err e) old new values valid bytes
  failed-by e r = record {
    same = r.same;
    ok_values = tt;
    ok_valid = tt;
    ok_bytes = tt;
    err_values = r.values;
    err_valid = r.valid;
    err_bytes = r.bytes;
    data_type = r.data_type;
    fits = r.fits;
    overflow = rw (← count, ← size) r.overflow;
    only = r.only;
    succeeds = rw (← count, ← size) r.succeeds;
    capacity = r.capacity;
    byte_capacity = r.byte_capacity;
  }

  -- and are not where it failed
  pub not-appended : (e : Error) (r : Result T Error) → IsErr r × IsErrAnd r (λ y. y ≡ e) → ReservesSlots {T = T} max (Err e) old new slots n → AppendsSlots max r old new values valid bytes
  not-appended e (Ok q) h p = let never = h.0 in cc
  not-appended e (Err y) h p = subst (λ z. AppendsSlots {T = T} max (Err z) old new values valid bytes) (sym h.1) (failed-by e p)
