-- The least and the greatest of booleans.
use Rattle.std.proofs.Common.{◌≡◌, ◌∙◌, ℕ, zero, suc, ◌<◌, ◌≤◌, ◌+◌, inl, inr, List, [], ◌∷◌, Bool, true, false, not, All, length, take, get_or, count_by, cond, refl, ap, sym, subst, arith, Option, Some, None, Contains, IsTrue, MatchOption}
use Rattle.std.specs.Cmp.Lexicographic.{slice_cmp}
use Rattle.std.specs.Ordering.{is_some_and, nat_cmp, ordering_then, partial_ordering_then}
use Rattle.std.specs.declared.cmp.Ordering.{Ordering}
use Rattle.std.specs.declared.cmp.Ordering.TheVariants.{Less, Equal, Greater}
use Rattle.std.specs.Option.{is_none, option_eq}
use Rattle.std.specs.Bool.{beq}
use Rattle.std.proofs.lemmas.List.Sums.{sum_by-cons}
use Rattle.std.proofs.lemmas.List.Elements.{All-cons, All-push}
use Rattle.std.proofs.lemmas.List.{take_more}
use Rattle.arrow2_walks.specs.Selections.{non_null_values}
use Rattle.arrow2_compute.specs.Comparisons.{bool_le, bytes_cmp}
use Rattle.arrow2_compute.specs.Extremes.{IsFirstChoice}

module _ {X : Type 0} where
  -- a value that is an item
  pub contains-value : (items : List (Option X)) (k : ℕ) (x : X) → k < length items → get_or items k None ≡ Some x → Contains (non_null_values items) x
  contains-value [] k x h e = absurd (omega (arith, h))
  contains-value (None ∷ items) zero x h e = cc
  contains-value (None ∷ items) (suc k) x h e = contains-value items k x (omega (arith, h)) e
  contains-value (Some y ∷ items) zero x h e = let same : y ≡ x = cc in (0, omega arith, same)
  contains-value (Some y ∷ items) (suc k) x h e = let at = contains-value items k x (omega (arith, h)) e in (suc at.0, omega (arith, at.1), at.2)

  -- where not each item is null, there is a value
  value-there : (items : List (Option X)) → (count_by is_none items ≡ length items → ⊥) → (x : X) × Contains (non_null_values items) x
  value-there [] h = absurd (h refl)
  value-there (Some y ∷ items) h = (y, contains-value (Some y ∷ items) 0 y (omega arith) refl)
  value-there (None ∷ items) h = let s = sum_by-cons (λ o. cond (is_none o) 1 0) None items in value-there items (λ e. h (omega (arith, e, s)))

  nulls-most : (items : List (Option X)) → count_by is_none items ≤ length items
  nulls-most [] = omega arith
  nulls-most (None ∷ items) = let s = sum_by-cons (λ o. cond (is_none o) 1 0) None items in let rest = nulls-most items in omega (arith, s, rest)
  nulls-most (Some x ∷ items) = let s = sum_by-cons (λ o. cond (is_none o) 1 0) (Some x) items in let rest = nulls-most items in omega (arith, s, rest)

  -- else there is none
  pub no-value : (items : List (Option X)) → count_by is_none items ≡ length items → non_null_values items ≡ []
  no-value [] e = refl
  no-value (None ∷ items) e = let s = sum_by-cons (λ o. cond (is_none o) 1 0) None items in no-value items (omega (arith, e, s))
  no-value (Some y ∷ items) e = let s = sum_by-cons (λ o. cond (is_none o) 1 0) (Some y) items in let most = nulls-most items in absurd (omega (arith, e, s, most))

-- each value is the other boolean, where no item is the wanted one
other-values : (wanted : Bool) (items : List (Option Bool)) → All (λ item. item ≡ Some wanted → ⊥) items → All (λ y. y ≡ not wanted) (non_null_values items)
other-values wanted [] all = λ k d h. absurd (omega (arith, h))
other-values wanted (None ∷ items) all = other-values wanted items (λ k d h. all (suc k) d (omega (arith, h)))
other-values wanted (Some y ∷ items) all = All-cons (λ z. z ≡ not wanted) y (non_null_values items) (other wanted y (λ e. all 0 None (omega arith) (ap (λ z. Some z) e))) (other-values wanted items (λ k d h. all (suc k) d (omega (arith, h))))
  where
    other : (a b : Bool) → (b ≡ a → ⊥) → b ≡ not a
    other true true differs = absurd (differs refl)
    other true false differs = refl
    other false true differs = refl
    other false false differs = absurd (differs refl)

-- the boolean that was looked for is an item
pub wanted-found : (wanted : Bool) (items : List (Option Bool)) (k : ℕ) → k < length items → get_or items k None ≡ Some wanted → IsFirstChoice wanted (non_null_values items) (Some wanted)
wanted-found wanted items k below e = (contains-value items k wanted below e, inl refl)

-- or it is none
pub other-found : (wanted : Bool) (items : List (Option Bool)) → All (λ item. item ≡ Some wanted → ⊥) items → (count_by is_none items ≡ length items → ⊥) → IsFirstChoice wanted (non_null_values items) (Some (not wanted))
other-found wanted items all some =
    let others = other-values wanted items all in
    let there = value-there items some in
    let is : there.0 ≡ not wanted = sym there.1.2 ∙ others there.1.0 there.0 there.1.1 in
    (subst (Contains (non_null_values items)) is there.1, inr (refl, others))

-- the least boolean
pub least-boolean : (items : List Bool) (o : Option Bool) → IsFirstChoice false items o → MatchOption o (items ≡ []) (λ x. Contains items x × All (λ y. IsTrue (bool_le x y)) items)
least-boolean items None h = h
least-boolean items (Some x) h = (
  h.0,
  elim h.1 as (λ _. All (λ y. IsTrue (bool_le x y)) items) [
    | inl e ↦ λ k d below. rw e refl
    | inr w ↦ λ k d below. rw (w.0, w.1 k d below) refl
  ],
)

-- the greatest boolean
pub greatest-boolean : (items : List Bool) (o : Option Bool) → IsFirstChoice true items o → MatchOption o (items ≡ []) (λ x. Contains items x × All (λ y. IsTrue (bool_le y x)) items)
greatest-boolean items None h = h
greatest-boolean items (Some x) h = (
  h.0,
  elim h.1 as (λ _. All (λ y. IsTrue (bool_le y x)) items) [
    | inl e ↦ λ k d below. rw e (at-most (get_or items k d))
    | inr w ↦ λ k d below. rw (w.0, w.1 k d below) refl
  ],
)
  where
    at-most : (y : Bool) → IsTrue (bool_le y true)
    at-most true = refl
    at-most false = refl

-- an item that equals the wanted boolean, and one that does not
pub is-wanted : (item : Option Bool) (wanted b : Bool) → b ≡ option_eq beq item (Some wanted) → b ≡ true → item ≡ Some wanted
is-wanted None wanted b is e = cc
is-wanted (Some true) true b is e = refl
is-wanted (Some true) false b is e = cc
is-wanted (Some false) true b is e = cc
is-wanted (Some false) false b is e = refl

not-wanted : (item : Option Bool) (wanted b : Bool) → b ≡ option_eq beq item (Some wanted) → b ≡ false → item ≡ Some wanted → ⊥
not-wanted None wanted b is e same = cc
not-wanted (Some true) true b is e same = cc
not-wanted (Some true) false b is e same = cc
not-wanted (Some false) true b is e same = cc
not-wanted (Some false) false b is e same = cc

pub none-wanted : (wanted b : Bool) (items : List (Option Bool)) (k : ℕ) (item : Option Bool) → k < length items → item ≡ get_or items k None → b ≡ option_eq beq item (Some wanted) → b ≡ false
    → All (λ item. item ≡ Some wanted → ⊥) (take k items) → All (λ item. item ≡ Some wanted → ⊥) (take (k + 1) items)
none-wanted wanted b items k item below at is e so =
    subst (All (λ item. item ≡ Some wanted → ⊥)) (sym (take_more items k None below))
    (All-push (λ item. item ≡ Some wanted → ⊥) (take k items) (get_or items k None) so (subst (λ o. o ≡ Some wanted → ⊥) at (not-wanted item wanted b is e)))

-- the order of byte strings, as comparisons have it
first-decides : (o rest : Ordering) (r : Option Ordering) → r ≡ Some rest → partial_ordering_then (Some o) r ≡ Some (ordering_then o rest)
first-decides Less rest r e = refl
first-decides Equal rest r e = e
first-decides Greater rest r e = refl

bytes_cmp-total : (xs ys : List ℕ) → bytes_cmp xs ys ≡ Some (slice_cmp nat_cmp xs ys)
bytes_cmp-total [] [] = refl
bytes_cmp-total [] (y ∷ ys) = refl
bytes_cmp-total (x ∷ xs) [] = refl
bytes_cmp-total (x ∷ xs) (y ∷ ys) = first-decides (nat_cmp x y) (slice_cmp nat_cmp xs ys) (bytes_cmp xs ys) (bytes_cmp-total xs ys)

module _ (items : List (List ℕ)) (o : Option (List ℕ)) (test : Ordering → Bool) where
  -- an extreme item by that order
  pub by-comparisons : MatchOption o (items ≡ []) (λ x. Contains items x × All (λ y. IsTrue (test (slice_cmp nat_cmp x y))) items) → MatchOption o (items ≡ []) (λ x. Contains items x × All (λ y. IsTrue (is_some_and test (bytes_cmp x y))) items)
  by-comparisons h = subst (λ (R : List ℕ → List ℕ → Bool). MatchOption o (items ≡ []) (λ x. Contains items x × All (λ y. IsTrue (R x y)) items)) (λ i x y. is_some_and test (sym (bytes_cmp-total x y) i)) h
