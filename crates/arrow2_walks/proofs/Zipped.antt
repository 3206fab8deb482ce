-- Values with their validity: how many they are, index by index, in parts, with others after them, and how many are
-- null.
use Rattle.std.proofs.Common.{◌≡◌, ℕ, zero, suc, ◌<◌, List, [], ◌∷◌, ◌++◌, Bool, true, false, not, cond, length, take, drop, get_or, refl, ap, sym, ◌∙◌, arith, Option, Some, None, is_some, unwrap_or, count_by, is_none}
use Rattle.std.specs.Bool.{then_some}
use Rattle.std.proofs.lemmas.List.Sums.{sum_by-cons}
use Rattle.arrow2_model.specs.Lists.{part, falses}
use Rattle.arrow2_walks.specs.Zipped.{slot, zipped}

module _ {X : Type 0} where
  pub length-zipped : (xs : List X) (vs : List Bool) → length vs ≡ length xs → length (zipped xs vs) ≡ length xs
  length-zipped [] vs e = refl
  length-zipped (x ∷ xs) [] e = absurd (omega (arith, e))
  length-zipped (x ∷ xs) (v ∷ vs) e = ap suc (length-zipped xs vs (omega (arith, e)))

  pub at-zipped : (xs : List X) (vs : List Bool) (k : ℕ) (d : X) → length vs ≡ length xs → k < length xs → get_or (zipped xs vs) k None ≡ slot (get_or xs k d) (get_or vs k false)
  at-zipped [] vs k d e h = absurd (omega (arith, h))
  at-zipped (x ∷ xs) [] k d e h = absurd (omega (arith, e))
  at-zipped (x ∷ xs) (v ∷ vs) zero d e h = refl
  at-zipped (x ∷ xs) (v ∷ vs) (suc k) d e h = at-zipped xs vs k d (omega (arith, e)) (omega (arith, h))

  as_slot : (x : X) (v : Bool) → then_some v x ≡ slot x v
  as_slot x true = refl
  as_slot x false = refl

  -- an item of a column, from its value and whether it is valid
  pub item-zipped : (xs : List X) (vs : List Bool) (items : List (Option X)) (k : ℕ) (x : X) (v : Bool) → length vs ≡ length xs → zipped xs vs ≡ items → k < length items → x ≡ get_or xs k x → v ≡ get_or vs k false → then_some v x ≡ get_or items k None
  item-zipped xs vs items k x v e is h is-x is-v =
      let l = length-zipped xs vs e in
      let n = ap length is in
      as_slot x v ∙ (ap (λ y. slot y v) is-x ∙ (ap (slot (get_or xs k x)) is-v ∙ (sym (at-zipped xs vs k x e (omega (arith, l, n, h))) ∙ ap (λ zs. get_or zs k None) is)))

  take-zipped : (xs : List X) (vs : List Bool) (n : ℕ) → take n (zipped xs vs) ≡ zipped (take n xs) (take n vs)
  take-zipped xs vs zero = refl
  take-zipped [] vs (suc n) = refl
  take-zipped (x ∷ xs) [] (suc n) = refl
  take-zipped (x ∷ xs) (v ∷ vs) (suc n) = ap (λ l. slot x v ∷ l) (take-zipped xs vs n)

  drop-zipped : (xs : List X) (vs : List Bool) (n : ℕ) → length vs ≡ length xs → drop n (zipped xs vs) ≡ zipped (drop n xs) (drop n vs)
  drop-zipped xs vs zero e = refl
  drop-zipped [] vs (suc n) e = refl
  drop-zipped (x ∷ xs) [] (suc n) e = absurd (omega (arith, e))
  drop-zipped (x ∷ xs) (v ∷ vs) (suc n) e = drop-zipped xs vs n (omega (arith, e))

  pub part-zipped : (xs : List X) (vs : List Bool) (a n : ℕ) → length vs ≡ length xs → part (zipped xs vs) a n ≡ zipped (part xs a n) (part vs a n)
  part-zipped xs vs a n e = ap (take n) (drop-zipped xs vs a e) ∙ take-zipped (drop a xs) (drop a vs) n

  pub append-zipped : (xs ys : List X) (vs ws : List Bool) → length vs ≡ length xs → zipped (xs ++ ys) (vs ++ ws) ≡ zipped xs vs ++ zipped ys ws
  append-zipped [] ys [] ws e = refl
  append-zipped [] ys (v ∷ vs) ws e = absurd (omega (arith, e))
  append-zipped (x ∷ xs) ys [] ws e = absurd (omega (arith, e))
  append-zipped (x ∷ xs) ys (v ∷ vs) ws e = ap (λ l. slot x v ∷ l) (append-zipped xs ys vs ws (omega (arith, e)))

  pub push-zipped : (xs : List X) (vs : List Bool) (x : X) (v : Bool) → length vs ≡ length xs → zipped (xs ++ x ∷ []) (vs ++ v ∷ []) ≡ zipped xs vs ++ slot x v ∷ []
  push-zipped xs vs x v e = append-zipped xs (x ∷ []) vs (v ∷ []) e

  -- an option by its value, or another one where it has none, and whether it has one
  pub slot-option : (o : Option X) (d : X) → slot (unwrap_or o d) (is_some o) ≡ o
  slot-option None d = refl
  slot-option (Some x) d = refl

  pub nulls-zipped : (xs : List X) (vs : List Bool) → length vs ≡ length xs → count_by is_none (zipped xs vs) ≡ falses vs
  nulls-zipped [] [] e = refl
  nulls-zipped [] (v ∷ vs) e = absurd (omega (arith, e))
  nulls-zipped (x ∷ xs) [] e = absurd (omega (arith, e))
  nulls-zipped (x ∷ xs) (true ∷ vs) e =
      let a = sum_by-cons (λ o. cond (is_none o) 1 0) (Some x) (zipped xs vs) in
      let b = sum_by-cons (λ v. cond (not v) 1 0) true vs in
      let c = nulls-zipped xs vs (omega (arith, e)) in
      omega (arith, a, b, c)
  nulls-zipped (x ∷ xs) (false ∷ vs) e =
      let a = sum_by-cons (λ o. cond (is_none o) 1 0) (slot x false) (zipped xs vs) in
      let b = sum_by-cons (λ v. cond (not v) 1 0) false vs in
      let c = nulls-zipped xs vs (omega (arith, e)) in
      omega (arith, a, b, c)

pub ruleset columns = (length-zipped, part-zipped, append-zipped, push-zipped, slot-option, nulls-zipped)
