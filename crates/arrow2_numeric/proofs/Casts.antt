-- Casts item by item: one item more.
use Rattle.std.proofs.Common.{◌≡◌, ℕ, zero, suc, ◌+◌, ◌<◌, List, [], ◌∷◌, ◌++◌, length, take, get_or, refl, ap, sym, subst, arith, add-one, inl, inr, ◌⊎◌, ℤ, Option, Some, None, All, Result, Ok, Err, IfOk, IfErr, get_or-take, length-take}
use Rattle.std.specs.List.{AllZip}
use Rattle.std.proofs.lemmas.Bool.{cases_order}
use Rattle.std.proofs.lemmas.List.Elements.{All-head, All-tail}
use Rattle.arrow2_types.specs.Failures.{IsInvalidArgumentOrOutOfMemory}
use Rattle.arrow2_types.specs.declared.error.Error.{Error}
use Rattle.arrow2_types.specs.declared.error.Error.TheVariants.{OutOfMemory}
use Rattle.arrow2_numeric.specs.Casts.{Fits, IsCast, IsFirstMisfit, IsSameNumber}

module _ {X Y : Type 0} (R : X → Y → Type 0) where
  -- there are as many of both
  pub length-zip : (xs : List X) (ys : List Y) → AllZip R xs ys → length ys ≡ length xs
  length-zip [] [] h = refl
  length-zip [] (y ∷ ys) h = absurd h
  length-zip (x ∷ xs) [] h = absurd h
  length-zip (x ∷ xs) (y ∷ ys) h = ap suc (length-zip xs ys h.1)

  zip-next : (xs : List X) (ys : List Y) (k : ℕ) (d : X) (y : Y) → k < length xs → AllZip R (take k xs) ys → R (get_or xs k d) y → AllZip R (take (suc k) xs) (ys ++ y ∷ [])
  zip-next [] ys k d y less h r = absurd (omega (arith, less))
  zip-next (x ∷ xs) [] zero d y less h r = (r, tt)
  zip-next (x ∷ xs) (z ∷ ys) zero d y less h r = absurd h
  zip-next (x ∷ xs) [] (suc k) d y less h r = absurd h
  zip-next (x ∷ xs) (z ∷ ys) (suc k) d y less h r = (h.0, zip-next xs ys k d y (omega (arith, less)) h.1 r)

  -- one more of both
  pub zip-more : (xs : List X) (ys : List Y) (k : ℕ) (d : X) (y : Y) → k < length xs → AllZip R (take k xs) ys → R (get_or xs k d) y → AllZip R (take (k + 1) xs) (ys ++ y ∷ [])
  zip-more xs ys k d y less h r = rw add-one (zip-next xs ys k d y less h r)

-- the item of the first ones at an index fits
fits-at : {X : Type 0} (value : X → ℤ) (fits : ℤ → Type 0) (items : List (Option X)) (n k : ℕ) → k < n → k < length items
    → All (Fits value fits) (take n items) → Fits value fits (get_or items k None)
fits-at {X = X} value fits items n k less inside h =
    let l = length-take n items in
    let short : k < length (take n items) = omega (arith, l, less, inside) in
    subst (λ (o : Option X). Fits value fits o) (get_or-take n items k None less) (h k None short)

-- which item is the first that does not fit
pub first-misfit : {X : Type 0} (value : X → ℤ) (fits : ℤ → Type 0) (items : List (Option X)) (k index : ℕ) → k < length items
    → All (Fits value fits) (take k items) → ¬ (Fits value fits (get_or items k None)) → IsFirstMisfit value fits items index → index ≡ k
first-misfit value fits items k index inside before here first = by-order (cases_order index k)
  where
    by-order : (index ≡ k) ⊎ ((index < k) ⊎ (k < index)) → index ≡ k
    by-order (inl e) = e
    by-order (inr (inl h)) = absurd (first.this (fits-at value fits items k index h (omega (arith, h, inside)) before))
    by-order (inr (inr h)) = absurd (here (fits-at value fits items index k h inside first.others))

-- what a cast makes of items that fit
pub same-numbers : {X Y : Type 0} (value : X → ℤ) (other : Y → ℤ) (fits : ℤ → Type 0) (xs : List (Option X)) (ys : List (Option Y))
    → All (Fits value fits) xs → AllZip (IsCast value other fits) xs ys → AllZip (IsSameNumber value other) xs ys
same-numbers value other fits [] [] all h = tt
same-numbers value other fits [] (y ∷ ys) all h = absurd h
same-numbers value other fits (x ∷ xs) [] all h = absurd h
same-numbers value other fits (None ∷ xs) (y ∷ ys) all h = (h.0, same-numbers value other fits xs ys (All-tail (Fits value fits) None xs all) h.1)
same-numbers value other fits (Some x ∷ xs) (None ∷ ys) all h = absurd (h.0 (All-head (Fits value fits) (Some x) xs all))
same-numbers value other fits (Some x ∷ xs) (Some y ∷ ys) all h = (h.0.1, same-numbers value other fits xs ys (All-tail (Fits value fits) (Some x) xs all) h.1)

-- a property of a value, or of an error, from another property that implies it
pub if-ok : {V E : Type 0} {P Q : V → Type 0} (r : Result V E) → ((v : V) → P v → Q v) → IfOk r P → IfOk r Q
if-ok (Ok v) gives p = gives v p
if-ok (Err e) gives p = tt

pub if-err : {V E : Type 0} {P Q : E → Type 0} (r : Result V E) → ((e : E) → P e → Q e) → IfErr r P → IfErr r Q
if-err (Ok v) gives p = tt
if-err (Err e) gives p = gives e p

-- any error becomes the error of memory
pub out_of_memory : (e : Error) (words : List ℕ) → e ≡ OutOfMemory → IsInvalidArgumentOrOutOfMemory e words
out_of_memory e words is = subst (λ (z : Error). IsInvalidArgumentOrOutOfMemory z words) (sym is) tt
