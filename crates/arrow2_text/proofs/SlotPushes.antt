-- One slot more: appended to the offsets, the bytes and the validity, or to none of them.
use Rattle.std.proofs.Common.{◌≡◌, ℕ, ◌+◌, ◌-◌, ◌≤◌, ◌<◌, ◌^◌, inl, inr, List, [], ◌∷◌, ◌++◌, Bool, true, false, length, min, sum, take, ap, subst, sym, refl, ◌∙◌, arith, IfErr, IsErr, IsErrAnd, IsErrOf, IsOk, OnErr, OnOk, Result, Ok, Err, is_err, length-append}
use Rattle.std.proofs.Math.Seq.{take-append_seam}
use Rattle.arrow2_types.specs.declared.error.Error.{Error}
use Rattle.arrow2_types.specs.declared.error.Error.TheVariants.{Overflow, OutOfMemory}
use Rattle.arrow2_types.specs.Failures.{error_of}
use Rattle.arrow2_datatypes.specs.declared.DataType.{DataType}
use Rattle.arrow2_offset.specs.Growth.{Grows}
use Rattle.arrow2_offset.specs.NestedLists.{cut}
use Rattle.arrow2_offset.specs.Offsets.{GrowingOffsets, last_of_growing}
use Rattle.arrow2_offset.proofs.NestedLists.{length-cut, push-cut}
use Rattle.arrow2_text.specs.Growth.{AppendsSlots, GrowingSlots}

-- slots that grow, by their parts
abbrev pub slots_of : DataType → GrowingOffsets → List ℕ → List Bool → ℕ → ℕ → GrowingSlots
slots_of d o xs vs c b = record {
  data_type = d;
  values = cut xs o.lengths;
  valid = vs;
  bytes = length xs;
  capacity = min o.capacity c;
  byte_capacity = b;
}

module _ {T : Type 0} (max : ℕ) (d : DataType) (o p : GrowingOffsets) (xs value : List ℕ) (vs : List Bool) (v : Bool) (c b : ℕ) (start : o.start ≡ 0) (whole : sum o.lengths ≡ length xs) (same_length : length vs ≡ length o.lengths) where
  -- the offsets have grown, and so have bytes and validity
  pub pushed : (r : Result T Error) (t : T) (ys : List ℕ) (ws : List Bool) (e f : ℕ) → is_err r ≡ false → Grows error_of (Ok t) o p (length value ∷ []) (last_of_growing o + sum (length value ∷ [])) max → OnOk r (ys ≡ xs ++ value) → OnOk r (ws ≡ vs ++ v ∷ []) → length vs + 1 < 2 ^ 64 → c ≤ e → b ≤ f
      → AppendsSlots max r (slots_of d o xs vs c b) (slots_of d p ys ws e f) (value ∷ []) (v ∷ []) (length value)
  pushed (Err x) t ys ws e f is g bytes valid counted more more-bytes = cc
  pushed (Ok u) t ys ws e f is g bytes valid counted more more-bytes =
      let slots = length-cut xs o.lengths in
      let below : max < last_of_growing o + sum (length value ∷ []) → ⊥ = λ h. let never = g.overflow.1 h in cc in
      record {
        same = omega (arith, same_length, slots);
        ok_values = ap (λ l. cut l p.lengths) bytes ∙ (ap (cut (xs ++ value)) g.ok.1 ∙ push-cut xs value o.lengths (length value) whole refl);
        ok_valid = valid;
        ok_bytes = ap length bytes ∙ length-append xs value;
        err_values = tt;
        err_valid = tt;
        err_bytes = tt;
        data_type = refl;
        fits = omega (arith, whole, start, below);
        overflow = (λ is. cc, λ past. elim past [ inl h ↦ let never = below (omega (arith, h, whole, start)) in absurd never | inr h ↦ absurd (omega (arith, h, counted)) ]);
        only = tt;
        succeeds = λ a b c. refl;
        capacity = omega (arith, g.capacity, more);
        byte_capacity = more-bytes;
      }

  -- the offsets return an error
  failed-by : (e : Error) → Grows {T = T} error_of (Err e) o p (length value ∷ []) (last_of_growing o + sum (length value ∷ [])) max → length vs + 1 < 2 ^ 64 → last_of_growing o ≤ max
      → AppendsSlots {T = T} max (Err e) (slots_of d o xs vs c b) (slots_of d p xs vs c b) (value ∷ []) (v ∷ []) (length value)
  failed-by e g counted fits =
      let slots = length-cut xs o.lengths in
      record {
        same = omega (arith, same_length, slots);
        ok_values = tt;
        ok_valid = tt;
        ok_bytes = tt;
        err_values = ap (cut xs) g.err.1;
        err_valid = refl;
        err_bytes = refl;
        data_type = refl;
        fits = omega (arith, whole, start, fits);
        overflow = (λ is. inl (omega (arith, g.overflow.0 is, whole, start)), λ past. elim past [ inl h ↦ g.overflow.1 (omega (arith, h, whole, start)) | inr h ↦ absurd (omega (arith, h, counted)) ]);
        only = g.only;
        succeeds = λ room bytes below. g.succeeds (omega (arith, room, same_length)) (omega (arith, below, whole, start));
        capacity = omega (arith, g.capacity);
        byte_capacity = omega arith;
      }

  pub not-pushed : (e : Error) (r : Result T Error) → IsErr r × IsErrAnd r (λ y. y ≡ e) → Grows {T = T} error_of (Err e) o p (length value ∷ []) (last_of_growing o + sum (length value ∷ [])) max → length vs + 1 < 2 ^ 64 → last_of_growing o ≤ max
      → AppendsSlots max r (slots_of d o xs vs c b) (slots_of d p xs vs c b) (value ∷ []) (v ∷ []) (length value)
  not-pushed e (Ok q) h g counted fits = let never = h.0 in cc
  not-pushed e (Err y) h g counted fits = subst (λ z. AppendsSlots {T = T} max (Err z) (slots_of d o xs vs c b) (slots_of d p xs vs c b) (value ∷ []) (v ∷ []) (length value)) (sym h.1) (failed-by e g counted fits)

  -- the offsets have grown, bytes or validity return an error, and the offset is taken back
  pub taken-back : (r : Result T Error) (t : T) (q : GrowingOffsets) (ys : List ℕ) (ws : List Bool) (e f : ℕ) → is_err r ≡ true → Grows error_of (Ok t) o p (length value ∷ []) (last_of_growing o + sum (length value ∷ [])) max → q.lengths ≡ take (length p.lengths - 1) p.lengths → q.capacity ≡ p.capacity → OnErr r (ys ≡ xs) → OnErr r (ws ≡ vs)
      → IfErr r (λ y. y ≡ OutOfMemory) → (length vs < c → length xs + length value ≤ b → IsOk r) → length vs + 1 < 2 ^ 64 → c ≤ e → b ≤ f
      → AppendsSlots max r (slots_of d o xs vs c b) (slots_of d q ys ws e f) (value ∷ []) (v ∷ []) (length value)
  taken-back (Ok u) t q ys ws e f is g lengths capacity bytes valid only succeeds counted more more-bytes = cc
  taken-back (Err y) t q ys ws e f is g lengths capacity bytes valid only succeeds counted more more-bytes =
      let slots = length-cut xs o.lengths in
      let below : max < last_of_growing o + sum (length value ∷ []) → ⊥ = λ h. let never = g.overflow.1 h in cc in
      let one = length-append o.lengths (length value ∷ []) in
      let count : length p.lengths - 1 ≡ length o.lengths = omega (arith, ap length g.ok.1, one) in
      let back : q.lengths ≡ o.lengths = lengths ∙ (ap (λ n. take n p.lengths) count ∙ (ap (take (length o.lengths)) g.ok.1 ∙ take-append_seam o.lengths (length value ∷ []))) in
      record {
        same = omega (arith, same_length, slots);
        ok_values = tt;
        ok_valid = tt;
        ok_bytes = tt;
        err_values = ap (λ l. cut l q.lengths) bytes ∙ ap (cut xs) back;
        err_valid = valid;
        err_bytes = ap length bytes;
        data_type = refl;
        fits = omega (arith, whole, start, below);
        overflow = (λ is. let no : IsErrOf {T = T} (Err OutOfMemory) Overflow = subst (λ z. IsErrOf {T = T} (Err z) Overflow) only is in cc, λ past. elim past [ inl h ↦ let never = below (omega (arith, h, whole, start)) in absurd never | inr h ↦ absurd (omega (arith, h, counted)) ]);
        only = inr only;
        succeeds = λ room spare fits. succeeds (omega (arith, room)) spare;
        capacity = omega (arith, capacity, g.capacity, more);
        byte_capacity = more-bytes;
      }
