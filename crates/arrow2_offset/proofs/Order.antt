-- The results of comparisons of numbers, whether a list rises, and whether it is offsets.
use Rattle.std.proofs.Common.{◌≡◌, inl, inr, ℕ, zero, suc, ◌+◌, ◌-◌, ◌<◌, ◌≤◌, ◌↔◌, List, Bool, true, false, ◌&&◌, Option, Some, map, length, get_or, ap, ◌∙◌, refl, arith, add-one, ℤ, pos, negsuc, ◌<ℤ◌, ◌≤ℤ◌, slice_index_or, IsTrue}
use Rattle.std.specs.Ordering.{MatchOrdering, is_some_and, int_cmp, is_le, is_lt, partial_le, partial_lt}
use Rattle.std.specs.declared.cmp.Ordering.{Ordering}
use Rattle.std.specs.declared.cmp.Ordering.TheVariants.{Less, Equal, Greater}
use Rattle.std.proofs.lemmas.Int.{ints}
use Rattle.std.proofs.lemmas.Cmp.{int_ranked}
use Rattle.std.proofs.lemmas.Bool.{cases_lt}
use Rattle.std.proofs.lemmas.List.{length-map, get_or-map}
use Rattle.arrow2_offset.specs.Offsets.{AreOffsets}

le_ranked : (a b : ℤ) (r : Ordering) → MatchOrdering r (a <ℤ b) (a ≡ b) (b <ℤ a) → IsTrue (is_le r) ↔ (a ≤ℤ b)
le_ranked a b Less h = ((λ _. omega (arith, ints)), λ _. refl)
le_ranked a b Equal h = ((λ _. rw h (omega (arith, ints))), λ _. refl)
le_ranked a b Greater h = ((λ e. let no : ⊥ = cc in absurd no), λ k. let no : ⊥ = omega (arith, ints) in absurd no)

lt_ranked : (a b : ℤ) (r : Ordering) → MatchOrdering r (a <ℤ b) (a ≡ b) (b <ℤ a) → IsTrue (is_lt r) ↔ (a <ℤ b)
lt_ranked a b Less h = ((λ _. h), λ _. refl)
lt_ranked a b Equal h = ((λ e. let no : ⊥ = cc in absurd no), λ k. let no : ⊥ = omega (arith, ints) in absurd no)
lt_ranked a b Greater h = ((λ e. let no : ⊥ = cc in absurd no), λ k. let no : ⊥ = omega (arith, ints) in absurd no)

module _ {X : Type 0} (value : X → ℤ) (order : X → X → Option Ordering) where
  -- `<=` of values that are ordered as their numbers
  pub le_stated : (a b : X) (r : Bool) → order a b ≡ Some (int_cmp (value a) (value b)) → r ≡ partial_le order a b → IsTrue r ↔ (value a ≤ℤ value b)
  le_stated a b r law e = rw (e ∙ ap (is_some_and is_le) law) (le_ranked (value a) (value b) (int_cmp (value a) (value b)) (int_ranked (value a) (value b) (int_cmp (value a) (value b)) refl))

  -- `<` of such values
  pub lt_stated : (a b : X) (r : Bool) → order a b ≡ Some (int_cmp (value a) (value b)) → r ≡ partial_lt order a b → IsTrue r ↔ (value a <ℤ value b)
  lt_stated a b r law e = rw (e ∙ ap (is_some_and is_lt) law) (lt_ranked (value a) (value b) (int_cmp (value a) (value b)) (int_ranked (value a) (value b) (int_cmp (value a) (value b)) refl))

and_stated : (b : Bool) (c : Bool) → IsTrue (b && c) → IsTrue b × IsTrue c
and_stated true c e = (refl, e)
and_stated false c e = let no : ⊥ = cc in absurd no

and_makes : (b : Bool) (c : Bool) → IsTrue b → IsTrue c → IsTrue (b && c)
and_makes true c e f = f
and_makes false c e f = let no : ⊥ = cc in absurd no

-- up to index n no item is below the one before it
abbrev RisesTo : List ℤ → ℕ → Type 0
RisesTo xs n = (k : ℕ) → k + 1 < n → slice_index_or xs k (pos 0) ≤ℤ slice_index_or xs (k + 1) (pos 0)

-- one more item
pub rises_more : (xs : List ℤ) (i : ℕ) (b c : Bool) → 1 ≤ i → (IsTrue b ↔ RisesTo xs i) → (IsTrue c ↔ (slice_index_or xs (i - 1) (pos 0) ≤ℤ slice_index_or xs i (pos 0))) → IsTrue (b && c) ↔ RisesTo xs (i + 1)
rises_more xs i b c some so_far here = (
  (λ e. let t = and_stated b c e in
      λ k h. elim (cases_lt (k + 1) i) [
        | inl low ↦ so_far.0 t.0 k low
        | inr last ↦
            let is : k ≡ i - 1 = omega arith in
            let next : k + 1 ≡ i = omega arith in
            rw (next, is) (here.0 t.1)
      ]),
  λ rises.
      let up : RisesTo xs i = λ k h. rises k (omega arith) in
      let next : (i - 1) + 1 ≡ i = omega arith in
      let last : slice_index_or xs (i - 1) (pos 0) ≤ℤ slice_index_or xs ((i - 1) + 1) (pos 0) = rises (i - 1) (omega arith) in
      and_makes b c (so_far.1 up) (here.1 (rw next at last)),
)

-- ---- the test that a list is offsets

natural_from : (xs : List ℤ) (k : ℕ) → pos 0 ≤ℤ slice_index_or xs 0 (pos 0) → RisesTo xs (length xs) → k < length xs → pos 0 ≤ℤ slice_index_or xs k (pos 0)
natural_from xs zero first rises h = first
natural_from xs (suc k) first rises h =
    let before = natural_from xs k first rises (omega arith) in
    let step = rises k (omega arith) in
    let next : slice_index_or xs k (pos 0) ≤ℤ slice_index_or xs (suc k) (pos 0) = rw add-one at step in
    omega (arith, ints)

module _ {X : Type 0} (value : X → ℤ) where
  -- at least one, the first not negative, and none below the one before it
  pub offsets_stated : (items : List X) (x : X) → (length items ≡ 0 → ⊥) → x ≡ get_or items 0 x → (value x <ℤ pos 0 → ⊥) → RisesTo (map value items) (length items) → AreOffsets (map value items)
  offsets_stated items x some is h rises =
      let m = length-map items value in
      let more : 0 < length items = omega (arith, some) in
      let first : pos 0 ≤ℤ slice_index_or (map value items) 0 (pos 0) = rw (get_or-map value items 0 x (pos 0) more, ← is) (not_below (value x) h) in
      let up : RisesTo (map value items) (length (map value items)) = λ k l. rises k (omega arith) in
      record { some = omega arith; natural = λ k l. natural_from (map value items) k first up l; rising = up }
    where
      not_below : (y : ℤ) → (y <ℤ pos 0 → ⊥) → pos 0 ≤ℤ y
      not_below (pos n) h = omega (arith, ints)
      not_below (negsuc n) h = let no : ⊥ = h (omega (arith, ints)) in absurd no
