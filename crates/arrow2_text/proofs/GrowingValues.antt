-- Values as they grow: what holds of each of them still does.
use Rattle.std.proofs.Common.{◌≡◌, ◌∙◌, ℕ, List, [], ◌∷◌, ◌++◌, All, Bool, get_or, length, ap, subst, sym, arith, IfOk, IfSome, OnOk, Option, Some, None, Result, Ok, Err, length-append}
use Rattle.std.proofs.Math.ListN.{get_or-append}
use Rattle.std.proofs.Math.Seq.{get_or-append_seam}
use Rattle.std.proofs.lemmas.List.Elements.{All-append, All-push, All-take, All-drop}
use Rattle.arrow2_types.specs.declared.error.Error.{Error}
use Rattle.arrow2_model.specs.Lists.{part}
use Rattle.arrow2_text.specs.Values.{AreValues}
use Rattle.arrow2_text.specs.Growth.{AppendsSlots, GrowingSlots, PopsSlot}
use Rattle.arrow2_text.proofs.GrowthItems.{value-of}

module _ (IsValue : List ℕ → Type 0) where
  pub same-values : (xs ys : List (List ℕ)) → AreValues IsValue xs → ys ≡ xs → AreValues IsValue ys
  same-values xs ys h e = rw e h

  nothing : AreValues IsValue []
  nothing = record { each = λ k d h. absurd (omega (arith, h)) }

  pub no-values : (ys : List (List ℕ)) → ys ≡ [] → AreValues IsValue ys
  no-values ys e = rw e nothing

  pub one-value : (y : List ℕ) → IsValue y → AreValues IsValue (y ∷ [])
  one-value y is = record { each = All-push IsValue [] y nothing.each is }

  pub part-values : (xs : List (List ℕ)) (k n : ℕ) → All IsValue xs → AreValues IsValue (part xs k n)
  part-values xs k n h = record { each = All-take IsValue n _ (All-drop IsValue k _ h) }

  module _ {T : Type 0} (max : ℕ) (old new : GrowingSlots) (values : List (List ℕ)) (valid : List Bool) (n : ℕ) where
    pub grown-known : (r : Result T Error) → AppendsSlots max r old new values valid n → AreValues IsValue old.values → OnOk r (AreValues IsValue values) → AreValues IsValue new.values
    grown-known (Ok x) a h more = rw a.ok_values (record { each = All-append IsValue old.values values h.each more.each })
    grown-known (Err x) a h more = same-values old.values new.values h a.err_values

    pub grown-values : (r : Result T Error) → AppendsSlots max r old new values valid n → AreValues IsValue old.values → AreValues IsValue values → AreValues IsValue new.values
    grown-values (Ok x) a h more = grown-known (Ok x) a h more
    grown-values (Err x) a h more = grown-known (Err x) a h tt

  module _ {V : Type 0} (bytes_of : V → List ℕ) (old new : GrowingSlots) where
    front-values : (value : List ℕ) → old.values ≡ new.values ++ value ∷ [] → AreValues IsValue old.values → AreValues IsValue new.values
    front-values value e h = record {
      each = λ k d below.
          let more = length-append new.values (value ∷ []) in
          let l = ap length e in
          subst IsValue (ap (λ xs. get_or xs k d) e ∙ get_or-append new.values (value ∷ []) d k below) (h.each k d (omega (arith, l, more, below)));
    }

    pub left-values : (r : Result (Option (Option V)) Error) → PopsSlot bytes_of r old new → AreValues IsValue old.values → AreValues IsValue new.values
    left-values (Ok None) p h = no-values new.values p.none.1
    left-values (Ok (Some item)) p h = front-values p.some.0 p.some.2 h
    left-values (Err x) p h = same-values old.values new.values h p.err_values

    pub last-value : (r : Result (Option (Option V)) Error) → PopsSlot bytes_of r old new → AreValues IsValue old.values → IfOk r (λ o. IfSome o (λ slot. IfSome slot (λ value. IsValue (bytes_of value))))
    last-value (Err x) p h = tt
    last-value (Ok None) p h = tt
    last-value (Ok (Some None)) p h = tt
    last-value (Ok (Some (Some v))) p h =
        let value = p.some.0 in
        let more = length-append new.values (value ∷ []) in
        let l = ap length p.some.2 in
        let is : get_or old.values (length new.values) [] ≡ value = ap (λ xs. get_or xs (length new.values) []) p.some.2 ∙ get_or-append_seam new.values value [] [] in
        subst IsValue (is ∙ sym (value-of (bytes_of v) value p.some.1 p.some.5)) (h.each (length new.values) [] (omega (arith, l, more)))
