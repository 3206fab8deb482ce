-- Vectors of offsets that grow.
use Rattle.std.proofs.Common.{◌≡◌, ℕ, ◌+◌, ◌-◌, ◌<◌, ◌≤◌, List, [], ◌∷◌, ◌++◌, map, length, sum, take, get_or, ap, sym, ◌∙◌, arith, ℤ, pos, ◌≤ℤ◌, unsigned_abs}
use Rattle.std.proofs.lemmas.Int.{ints}
use Rattle.std.proofs.lemmas.List.{length-map, map-append, append_assoc, get_or-map, take-append-le}
use Rattle.arrow2_offset.specs.Offsets.{AreOffsets, start_of, lengths_of, last_of, offset_at}
use Rattle.arrow2_offset.proofs.OffsetLists.{Spells, get_or-last, get_or-offsets, push_spells, sum-append}
use Rattle.arrow2_offset.specs.Lengths.{LengthenedBy}

pub same_naturals : (a b : ℕ) (x : ℤ) → pos a ≡ x → x ≡ pos b → a ≡ b
same_naturals a b x e h = ap unsigned_abs (e ∙ h)

natural_as_whole : (n : ℕ) (x : ℤ) → x ≡ pos n → pos 0 ≤ℤ x
natural_as_whole n x e = rw e (omega (arith, ints))

pub sum-push : (ns : List ℕ) (n : ℕ) → sum (ns ++ n ∷ []) ≡ sum ns + n
sum-push ns n = omega (arith, sum-append ns (n ∷ []))

-- offsets that have grown by some lengths are offsets
abbrev pub AreLengthened : List ℕ → List ℤ → List ℤ → Type 0
AreLengthened ns old new = AreOffsets new × LengthenedBy ns old new

-- the last offset of a list that has grown by some lengths
pub last_grown : (ns : List ℕ) (old new : List ℤ) → LengthenedBy ns old new → last_of new ≡ last_of old + sum ns
last_grown ns old new by =
    let start = by.0 in
    let e : sum (lengths_of new) ≡ sum (lengths_of old) + sum ns = ap sum by.1 ∙ sum-append (lengths_of old) ns in
    omega (arith, start, e)

module _ {X : Type 0} (value : X → ℤ) where
  -- offset k
  pub value_at : (items : List X) (x : X) (k : ℕ) → AreOffsets (map value items) → k < length items → x ≡ get_or items k x → value x ≡ pos (offset_at (start_of (map value items)) (lengths_of (map value items)) k)
  value_at items x k h l e =
      let m = length-map items value in
      ap value e ∙ (sym (get_or-map value items k x (pos 0) l) ∙ get_or-offsets (map value items) k h (omega arith))

  -- an offset is a natural number
  pub value_natural : (items : List X) (x : X) (k : ℕ) → AreOffsets (map value items) → k < length items → x ≡ get_or items k x → pos 0 ≤ℤ value x
  value_natural items x k h l e = natural_as_whole _ (value x) (value_at items x k h l e)

  -- the last offset
  pub value_last : (items : List X) (x : X) (n : ℕ) → AreOffsets (map value items) → n ≡ length items → x ≡ get_or items (n - 1) x → value x ≡ pos (last_of (map value items))
  value_last items x n h l e =
      let m = length-map items value in
      let some = h.some in
      ap value e ∙ (sym (get_or-map value items (n - 1) x (pos 0) (omega arith)) ∙ get_or-last (map value items) n h (omega arith))

  -- one length more
  pub pushed : (old : List ℤ) (ns : List ℕ) (n : ℕ) (items grown : List X) (x : X) → AreLengthened ns old (map value items) → grown ≡ items ++ x ∷ [] → value x ≡ pos (last_of old + sum ns + n) → AreLengthened (ns ++ n ∷ []) old (map value grown)
  pushed old ns n items grown x so_far e is =
      let xs = map value items in
      let m : map value grown ≡ xs ++ value x ∷ [] = ap (map value) e ∙ map-append value items (x ∷ []) in
      let last = last_grown ns old xs so_far.1 in
      let s : Spells (map value grown) (start_of xs) (lengths_of xs ++ n ∷ []) = rw m (push_spells xs (value x) n so_far.0 (is ∙ ap (λ k. pos (k + n)) (sym last))) in
      (s.are, (s.from ∙ so_far.1.0, s.by ∙ (ap (λ t. t ++ n ∷ []) so_far.1.1 ∙ append_assoc (lengths_of old) ns (n ∷ []))))

-- the items before it stay there
pub front_stays : {X : Type 0} (old items grown : List X) (x : X) → take (length old) items ≡ old → length old ≤ length items → grown ≡ items ++ x ∷ [] → take (length old) grown ≡ old
front_stays old items grown x e l is = ap (take (length old)) is ∙ (take-append-le (length old) items (x ∷ []) l ∙ e)
