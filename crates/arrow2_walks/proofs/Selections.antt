-- Items chosen by a mask: one item more, their number, and that the mask's runs cut them out. Items that are not null.
use Rattle.std.proofs.Common.{◌≡◌, ℕ, zero, suc, ◌+◌, ◌<◌, ◌≤◌, List, [], ◌∷◌, ◌++◌, Bool, true, false, cond, not, length, map, take, get_or, refl, ap, ◌∙◌, arith, add-one, Option, Some, None, if◌then◌else◌, flat_map}
use Rattle.std.proofs.lemmas.List.{take_more}
use Rattle.std.proofs.lemmas.List.Sums.{sum_by-cons}
use Rattle.arrow2_model.specs.Lists.{part, falses}
use Rattle.arrow2_walks.specs.Runs.{runs, shift_run, with_true}
use Rattle.arrow2_walks.specs.Selections.{selection, choice, non_null_values}
use Rattle.arrow2_walks.specs.Zipped.{zipped}

-- of any items, where d stands for the items past them
module _ {X : Type 0} (d : X) where
  selected-next : (xs : List X) (ms : List Bool) (k : ℕ) → k < length xs → k < length ms
      → selection (take (suc k) xs) (take (suc k) ms) ≡ selection (take k xs) (take k ms) ++ (if get_or ms k false then get_or xs k d ∷ [] else [])
  selected-next [] ms k h i = absurd (omega (arith, h))
  selected-next (x ∷ xs) [] k h i = absurd (omega (arith, i))
  selected-next (x ∷ xs) (true ∷ ms) zero h i = refl
  selected-next (x ∷ xs) (false ∷ ms) zero h i = refl
  selected-next (x ∷ xs) (true ∷ ms) (suc k) h i = ap (λ l. x ∷ l) (selected-next xs ms k (omega (arith, h)) (omega (arith, i)))
  selected-next (x ∷ xs) (false ∷ ms) (suc k) h i = selected-next xs ms k (omega (arith, h)) (omega (arith, i))

  pub selected-more_of : (xs : List X) (ms : List Bool) (k : ℕ) → k < length xs → k < length ms
      → selection (take (k + 1) xs) (take (k + 1) ms) ≡ selection (take k xs) (take k ms) ++ (if get_or ms k false then get_or xs k d ∷ [] else [])
  selected-more_of xs ms k h i = rw add-one (selected-next xs ms k h i)

  chosen-next : (ms : List Bool) (xs ys : List X) (k : ℕ) → k < length ms → k < length xs → k < length ys
      → choice (take (suc k) ms) (take (suc k) xs) (take (suc k) ys) ≡ choice (take k ms) (take k xs) (take k ys) ++ (if get_or ms k false then get_or xs k d else get_or ys k d) ∷ []
  chosen-next [] xs ys k g h i = absurd (omega (arith, g))
  chosen-next (m ∷ ms) [] ys k g h i = absurd (omega (arith, h))
  chosen-next (m ∷ ms) (x ∷ xs) [] k g h i = absurd (omega (arith, i))
  chosen-next (m ∷ ms) (x ∷ xs) (y ∷ ys) zero g h i = refl
  chosen-next (m ∷ ms) (x ∷ xs) (y ∷ ys) (suc k) g h i = ap (λ l. (if m then x else y) ∷ l) (chosen-next ms xs ys k (omega (arith, g)) (omega (arith, h)) (omega (arith, i)))

  pub chosen-more_of : (ms : List Bool) (xs ys : List X) (k : ℕ) → k < length ms → k < length xs → k < length ys
      → choice (take (k + 1) ms) (take (k + 1) xs) (take (k + 1) ys) ≡ choice (take k ms) (take k xs) (take k ys) ++ (if get_or ms k false then get_or xs k d else get_or ys k d) ∷ []
  chosen-more_of ms xs ys k g h i = rw add-one (chosen-next ms xs ys k g h i)

module _ {X : Type 0} where
  pub selected-more : (xs : List (Option X)) (ms : List Bool) (k : ℕ) → k < length xs → k < length ms
      → selection (take (k + 1) xs) (take (k + 1) ms) ≡ selection (take k xs) (take k ms) ++ (if get_or ms k false then get_or xs k None ∷ [] else [])
  selected-more = selected-more_of None

  pub chosen-more : (ms : List Bool) (xs ys : List (Option X)) (k : ℕ) → k < length ms → k < length xs → k < length ys
      → choice (take (k + 1) ms) (take (k + 1) xs) (take (k + 1) ys) ≡ choice (take k ms) (take k xs) (take k ys) ++ (if get_or ms k false then get_or xs k None else get_or ys k None) ∷ []
  chosen-more = chosen-more_of None

  -- no more are selected than there are
  pub length-selected : (xs : List X) (ms : List Bool) → length (selection xs ms) ≤ length xs
  length-selected [] ms = omega arith
  length-selected (x ∷ xs) [] = omega arith
  length-selected (x ∷ xs) (true ∷ ms) = let rest = length-selected xs ms in omega (arith, rest)
  length-selected (x ∷ xs) (false ∷ ms) = let rest = length-selected xs ms in omega (arith, rest)

  -- and their number is that of the mask's true items
  pub count-selected : (xs : List X) (ms : List Bool) → length ms ≡ length xs → length (selection xs ms) + falses ms ≡ length ms
  count-selected [] [] e = refl
  count-selected [] (m ∷ ms) e = absurd (omega (arith, e))
  count-selected (x ∷ xs) [] e = absurd (omega (arith, e))
  count-selected (x ∷ xs) (true ∷ ms) e =
      let rest = count-selected xs ms (omega (arith, e)) in
      let s = sum_by-cons (λ (x : Bool). cond (not x) 1 0) true ms in
      omega (arith, rest, s)
  count-selected (x ∷ xs) (false ∷ ms) e =
      let rest = count-selected xs ms (omega (arith, e)) in
      let s = sum_by-cons (λ (x : Bool). cond (not x) 1 0) false ms in
      omega (arith, rest, s)

  -- the items that the runs of a mask cut out of a list with one item more at its start
  following : (x : X) (xs : List X) (ps : List (ℕ × ℕ)) → flat_map (λ (r : ℕ × ℕ). part (x ∷ xs) r.0 r.1) (map (shift_run 1) ps) ≡ flat_map (λ (r : ℕ × ℕ). part xs r.0 r.1) ps
  following x xs [] = refl
  following x xs (p ∷ ps) =
      let e : 1 + p.0 ≡ suc p.0 = omega arith in
      ap (λ s. part (x ∷ xs) s p.1 ++ flat_map (λ (r : ℕ × ℕ). part (x ∷ xs) r.0 r.1) (map (shift_run 1) ps)) e ∙ ap (λ l. part xs p.0 p.1 ++ l) (following x xs ps)

  in-front : (x : X) (xs : List X) (ps : List (ℕ × ℕ)) → flat_map (λ (r : ℕ × ℕ). part (x ∷ xs) r.0 r.1) (with_true ps) ≡ x ∷ flat_map (λ (r : ℕ × ℕ). part xs r.0 r.1) ps
  in-front x xs [] = refl
  in-front x xs ((zero, n) ∷ ps) = ap (λ l. x ∷ (part xs 0 n ++ l)) (following x xs ps)
  in-front x xs ((suc s, n) ∷ ps) = ap (λ l. x ∷ l) (following x xs ((suc s, n) ∷ ps))

  -- the runs of a mask cut out the items that it selects
  pub selected-runs : (xs : List X) (ms : List Bool) → length ms ≡ length xs → flat_map (λ (r : ℕ × ℕ). part xs r.0 r.1) (runs ms) ≡ selection xs ms
  unfolding runs
  selected-runs [] [] e = refl
  selected-runs [] (m ∷ ms) e = absurd (omega (arith, e))
  selected-runs (x ∷ xs) [] e = absurd (omega (arith, e))
  selected-runs (x ∷ xs) (true ∷ ms) e = in-front x xs (runs ms) ∙ ap (λ l. x ∷ l) (selected-runs xs ms (omega (arith, e)))
  selected-runs (x ∷ xs) (false ∷ ms) e = following x xs (runs ms) ∙ selected-runs xs ms (omega (arith, e))

  -- of two lists one after the other
  pub non_null_values-append : (xs ys : List (Option X)) → non_null_values (xs ++ ys) ≡ non_null_values xs ++ non_null_values ys
  non_null_values-append [] ys = refl
  non_null_values-append (Some x ∷ xs) ys = ap (λ l. x ∷ l) (non_null_values-append xs ys)
  non_null_values-append (None ∷ xs) ys = non_null_values-append xs ys

  -- of one item more
  pub non_null_values-more : (xs : List (Option X)) (k : ℕ) → k < length xs → non_null_values (take (k + 1) xs) ≡ non_null_values (take k xs) ++ non_null_values (get_or xs k None ∷ [])
  non_null_values-more xs k h = ap non_null_values (take_more xs k None h) ∙ non_null_values-append (take k xs) (get_or xs k None ∷ [])

  -- of slots they are the values that the validity selects
  pub non_null_values-zipped : (xs : List X) (vs : List Bool) → non_null_values (zipped xs vs) ≡ selection xs vs
  non_null_values-zipped [] vs = refl
  non_null_values-zipped (x ∷ xs) [] = refl
  non_null_values-zipped (x ∷ xs) (true ∷ vs) = ap (λ l. x ∷ l) (non_null_values-zipped xs vs)
  non_null_values-zipped (x ∷ xs) (false ∷ vs) = non_null_values-zipped xs vs

pub ruleset selections = (selected-more, chosen-more, length-selected, count-selected, non_null_values-append, non_null_values-more, non_null_values-zipped)
