-- Steps of an iterator over the lengths between offsets.
use Rattle.std.proofs.Common.{◌≡◌, ℕ, ◌+◌, ◌-◌, ◌<◌, List, [], ◌∷◌, ◌++◌, map, length, take, drop, get_or, ap, sym, ◌∙◌, refl, arith, ℤ, pos, ◌≤ℤ◌, ◌-ℤ◌, unsigned_abs}
use Rattle.std.specs.Int.{int_gap}
use Rattle.std.proofs.lemmas.List.{length-drop, take_all, take_more}
use Rattle.arrow2_offset.specs.Offsets.{AreOffsets, lengths_of, gaps_after, last_of}
use Rattle.arrow2_index.proofs.Ranges.{gap_pos}
use Rattle.arrow2_offset.proofs.OffsetLists.{get_or-next}
use Rattle.arrow2_offset.proofs.Growing.{cut, length_slots}

-- the offsets after the first one
offsets_following : (x y : ℤ) (xs : List ℤ) → AreOffsets (x ∷ y ∷ xs) → AreOffsets (y ∷ xs)
offsets_following x y xs h = record {
  some = omega arith;
  natural = λ k l. rw (← get_or-next x (y ∷ xs) k (pos 0)) (h.natural (k + 1) (omega arith));
  rising = λ k l. rw (← get_or-next x (y ∷ xs) k (pos 0), ← get_or-next x (y ∷ xs) (k + 1) (pos 0)) (h.rising (k + 1) (omega arith));
}

module _ {X : Type 0} (value : X → ℤ) where
  -- nothing is left where one offset is left
  pub no_length : (items : List X) → length items ≡ 1 → lengths_of (map value items) ≡ []
  unfolding lengths_of gaps_after
  no_length [] e = refl
  no_length (x ∷ []) e = refl
  no_length (x ∷ y ∷ xs) e = let no : ⊥ = omega arith in absurd no

  -- the first two are in order
  pub in_order : (items : List X) (a b : X) → AreOffsets (map value items) → 1 < length items → a ≡ get_or items 0 a → b ≡ get_or items 1 b → value a ≤ℤ value b
  in_order [] a b h l is-a is-b = let no : ⊥ = omega arith in absurd no
  in_order (x ∷ []) a b h l is-a is-b = let no : ⊥ = omega arith in absurd no
  in_order (x ∷ y ∷ xs) a b h l is-a is-b = rw (is-a, is-b) (h.rising 0 (omega arith))

  -- the first length, and those after it
  first_of : (items : List X) (a b : X) (n : ℕ) → AreOffsets (map value items) → 1 < length items → a ≡ get_or items 0 a → b ≡ get_or items 1 b → pos n ≡ value b -ℤ value a → AreOffsets (map value (drop 1 items)) × (lengths_of (map value items) ≡ n ∷ lengths_of (map value (drop 1 items)))
  unfolding lengths_of gaps_after
  first_of [] a b n h l is-a is-b e = let no : ⊥ = omega arith in absurd no
  first_of (x ∷ []) a b n h l is-a is-b e = let no : ⊥ = omega arith in absurd no
  first_of (x ∷ y ∷ xs) a b n h l is-a is-b e =
      let order : value x ≤ℤ value y = h.rising 0 (omega arith) in
      let gap = gap_pos (value x) (value y) order in
      let same : pos n ≡ value y -ℤ value x = e ∙ (ap (λ z. value z -ℤ value a) is-b ∙ ap (λ z. value y -ℤ value z) is-a) in
      let is : int_gap (value x) (value y) ≡ n = ap unsigned_abs (gap ∙ sym same) in
      (offsets_following (value x) (value y) (map value xs) h, ap (λ k. k ∷ gaps_after (value y) (map value xs)) is)

  pub first_length : (items following : List X) (a b : X) (n : ℕ) → AreOffsets (map value items) → 1 < length items → a ≡ get_or items 0 a → b ≡ get_or items 1 b → pos n ≡ value b -ℤ value a → following ≡ take (length items - 1) (drop 1 items) → AreOffsets (map value following) × (lengths_of (map value items) ≡ n ∷ lengths_of (map value following))
  first_length items following a b n h l is-a is-b e is =
      let len = length-drop 1 items in
      let all : following ≡ drop 1 items = is ∙ take_all (length items - 1) (drop 1 items) (omega (arith, len)) in
      rw all (first_of items a b n h l is-a is-b e)

  -- the lengths before the last one, and that one
  pub last_length : (items : List X) (k m n : ℕ) → AreOffsets (map value items) → length items ≡ k + 2 → n ≡ m + get_or (lengths_of (map value items)) k 0 → AreOffsets (map value (take (k + 1) items)) × (lengths_of (map value items) ≡ lengths_of (map value (take (k + 1) items)) ++ (n - m) ∷ [])
  last_length items k m n h l e =
      let all = lengths_of (map value items) in
      let count = length_slots value items (length items) h refl in
      let front = cut value (last_of (map value items)) items (take (k + 1) items) (k + 1) k (h, omega arith) refl (omega arith) refl in
      let is : n - m ≡ get_or all k 0 = omega arith in
      (front.0.0, sym (take_all (k + 1) all (omega arith)) ∙ (take_more all k 0 (omega arith) ∙ rw (front.2, is) refl))
