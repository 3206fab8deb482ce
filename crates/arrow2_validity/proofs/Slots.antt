-- Values with their validity: which items are null, and values that are all there.
use Rattle.std.proofs.Common.{◌≡◌, ℕ, zero, suc, ◌<◌, List, [], ◌∷◌, Bool, true, false, not, cond, count_by, length, get_or, replicate, map, refl, ap, arith, Option, Some, None, is_some, is_none}
use Rattle.std.proofs.lemmas.List.Sums.{sum_by-cons}
use Rattle.arrow2_walks.specs.Zipped.{slot, zipped}
use Rattle.arrow2_walks.proofs.Zipped.{length-zipped, part-zipped, append-zipped, push-zipped, slot-option, nulls-zipped, at-zipped}

module _ {X : Type 0} where
  -- values that are all there
  pub zipped-true : (xs : List X) → zipped xs (replicate (length xs) true) ≡ map (λ x. Some x) xs
  zipped-true [] = refl
  zipped-true (x ∷ xs) = ap (λ l. Some x ∷ l) (zipped-true xs)

  -- which items are not null
  pub known-zipped : (xs : List X) (vs : List Bool) → length vs ≡ length xs → map is_some (zipped xs vs) ≡ vs
  known-zipped [] [] e = refl
  known-zipped [] (v ∷ vs) e = absurd (omega (arith, e))
  known-zipped (x ∷ xs) [] e = absurd (omega (arith, e))
  known-zipped (x ∷ xs) (true ∷ vs) e = ap (λ l. true ∷ l) (known-zipped xs vs (omega (arith, e)))
  known-zipped (x ∷ xs) (false ∷ vs) e = ap (λ l. false ∷ l) (known-zipped xs vs (omega (arith, e)))

  -- where no item is null they are the values
  pub no-null : (xs : List X) (vs : List Bool) → length (zipped xs vs) ≡ length xs → count_by is_none (zipped xs vs) ≡ 0 → zipped xs vs ≡ map (λ x. Some x) xs
  no-null [] vs e none = refl
  no-null (x ∷ xs) [] e none = absurd (omega (arith, e))
  no-null (x ∷ xs) (true ∷ vs) e none =
      let a = sum_by-cons (λ o. cond (is_none o) 1 0) (Some x) (zipped xs vs) in
      ap (λ l. Some x ∷ l) (no-null xs vs (omega (arith, e)) (omega (arith, a, none)))
  no-null (x ∷ xs) (false ∷ vs) e none =
      let a = sum_by-cons (λ o. cond (is_none o) 1 0) (slot x false) (zipped xs vs) in
      absurd (omega (arith, a, none))

  -- whether an item is not null, by its index
  pub valid-zipped : (xs : List X) (vs : List Bool) (k : ℕ) → length vs ≡ length xs → k < length xs → is_some (get_or (zipped xs vs) k None) ≡ get_or vs k false
  valid-zipped [] vs k e h = absurd (omega (arith, h))
  valid-zipped (x ∷ xs) [] k e h = absurd (omega (arith, e))
  valid-zipped (x ∷ xs) (true ∷ vs) zero e h = refl
  valid-zipped (x ∷ xs) (false ∷ vs) zero e h = refl
  valid-zipped (x ∷ xs) (v ∷ vs) (suc k) e h = valid-zipped xs vs k (omega (arith, e)) (omega (arith, h))

pub not-is_some : {X : Type 0} (o : Option X) → not (is_some o) ≡ is_none o
not-is_some None = refl
not-is_some (Some x) = refl

-- lemmas that arrays and their builders are proved by
pub ruleset arrays = (length-zipped, part-zipped, append-zipped, push-zipped, slot-option, nulls-zipped, zipped-true, known-zipped, valid-zipped, not-is_some)
