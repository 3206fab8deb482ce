-- Items at indices, by their values and their validity apart.
use Rattle.std.proofs.Common.{◌≡◌, ℕ, zero, suc, ◌<◌, List, [], ◌∷◌, Bool, true, false, length, map, get_or, replicate, refl, ap, sym, ◌∙◌, arith, All, Option, Some, None}
use Rattle.std.specs.List.{AllZip, range_with_len}
use Rattle.std.proofs.lemmas.List.{ext_get_or, get_or-map, get_or-replicate, length-map}
use Rattle.std.proofs.lemmas.List.FromFn.{get_or-map-range_with_len, length-map-range_with_len}
use Rattle.std.proofs.lemmas.List.Elements.{All-head, All-tail}
use Rattle.arrow2_model.specs.Lists.{BitmapStorage, items_of}
use Rattle.arrow2_validity.specs.OptionalValidity.{OptionalValidity, items_or_true, valid_items}
use Rattle.arrow2_validity.proofs.ValidItems.{items-some}
use Rattle.arrow2_walks.specs.Zipped.{slot, zipped}
use Rattle.arrow2_walks.proofs.Zipped.{at-zipped}
use Rattle.arrow2_compute.specs.Take.{IsItemAt}

module _ {X : Type 0} where
  -- the values and the validity at the indices are the items there
  pub taken-zipped : (xs : List X) (vs : List Bool) (positions : List ℕ) (ys : List X) → length vs ≡ length xs
      → All (λ position. position < length xs) positions → AllZip (IsItemAt xs) positions ys
      → zipped ys (map (λ position. get_or vs position false) positions) ≡ map (λ position. get_or (zipped xs vs) position None) positions
  taken-zipped xs vs [] [] e inside stand = refl
  taken-zipped xs vs [] (y ∷ ys) e inside stand = absurd stand
  taken-zipped xs vs (position ∷ positions) [] e inside stand = absurd stand
  taken-zipped xs vs (position ∷ positions) (y ∷ ys) e inside stand =
      let here = at-zipped xs vs position y e (All-head (λ position. position < length xs) position positions inside) in
      ap (λ x. slot x (get_or vs position false) ∷ zipped ys (map (λ position. get_or vs position false) positions)) (sym stand.0)
      ∙ (ap (λ item. item ∷ zipped ys (map (λ position. get_or vs position false) positions)) (sym here)
      ∙ ap (λ items. get_or (zipped xs vs) position None ∷ items) (taken-zipped xs vs positions ys e (All-tail (λ position. position < length xs) position positions inside) stand.1))

  -- inside the list the default of `get_or` does not matter
  pub any-default : (xs : List X) (k : ℕ) (d e : X) → k < length xs → get_or xs k d ≡ get_or xs k e
  any-default [] k d e h = absurd (omega (arith, h))
  any-default (x ∷ xs) zero d e h = refl
  any-default (x ∷ xs) (suc k) d e h = any-default xs k d e (omega (arith, h))

  -- the values read at indices are the items there
  pub stand-there : (xs : List X) (d : X) (positions : List ℕ) → All (λ position. position < length xs) positions → AllZip (IsItemAt xs) positions (map (λ position. get_or xs position d) positions)
  stand-there xs d [] inside = tt
  stand-there xs d (position ∷ positions) inside =
      (any-default xs position (get_or xs position d) d (All-head (λ position. position < length xs) position positions inside), stand-there xs d positions (All-tail (λ position. position < length xs) position positions inside))

-- a validity by its parts
pub by-parts : (n : ℕ) (bitmap : Option BitmapStorage) (v : OptionalValidity) → bitmap ≡ v.bitmap → n ≡ v.len → items_or_true n bitmap ≡ valid_items v
by-parts n bitmap v is size = ap (items_or_true n) is ∙ ap (λ k. items_or_true k v.bitmap) size

-- and by its bitmap, where it has one
pub by-bitmap : (v : OptionalValidity) (b : BitmapStorage) → v.bitmap ≡ Some b → items_of b ≡ valid_items v
by-bitmap v b is = sym (ap (items_or_true v.len) is ∙ items-some v.len b)

-- of items that are all true
pub taken-true : (n : ℕ) (positions : List ℕ) → All (λ position. position < n) positions → map (λ position. get_or (replicate n true) position false) positions ≡ replicate (length positions) true
taken-true n [] inside = refl
taken-true n (position ∷ positions) inside =
    ap (λ b. b ∷ map (λ position. get_or (replicate n true) position false) positions) (get_or-replicate n position true false (All-head (λ position. position < n) position positions inside))
    ∙ ap (λ l. true ∷ l) (taken-true n positions (All-tail (λ position. position < n) position positions inside))

-- the results of a test on the item at each index, as a list
pub stated-each : {I X : Type 0} (f : I → X) (test : X → Bool) (indices : List I) (d : I) (n : ℕ) → n ≡ length indices → map (λ k. test (f (get_or indices k d))) (range_with_len 0 n) ≡ map test (map f indices)
stated-each f test indices d n e =
    let m = length-map indices f in
    let stated = λ (k : ℕ). test (f (get_or indices k d)) in
    let size = length-map-range_with_len stated 0 n in
    ext_get_or false (map stated (range_with_len 0 n)) (map test (map f indices)) (size ∙ (e ∙ (sym m ∙ sym (length-map (map f indices) test))))
    (λ k l. let less : k < n = omega (arith, l, size) in
    get_or-map-range_with_len stated 0 n k k false less (omega arith)
    ∙ (ap test (sym (get_or-map f indices k d (f d) (omega (arith, less, e)))) ∙ sym (get_or-map test (map f indices) k (f d) false (omega (arith, less, e, m)))))

-- the values of slots that are not null, from the items
pub known-slots : {X : Type 0} (xs ys : List X) (vs : List Bool) → length vs ≡ length xs → zipped xs vs ≡ map (λ y. Some y) ys → xs ≡ ys
known-slots [] [] vs e is = refl
known-slots [] (y ∷ ys) vs e is = let never = is in cc
known-slots (x ∷ xs) ys [] e is = absurd (omega (arith, e))
known-slots (x ∷ xs) [] (v ∷ vs) e is = let never = is in cc
known-slots (x ∷ xs) (y ∷ ys) (false ∷ vs) e is = let never : None ≡ Some y = cc in cc
known-slots (x ∷ xs) (y ∷ ys) (true ∷ vs) e is =
    let first : x ≡ y = cc in
    let others : zipped xs vs ≡ map (λ y. Some y) ys = cc in
    ap (λ z. z ∷ xs) first ∙ ap (λ zs. y ∷ zs) (known-slots xs ys vs (omega (arith, e)) others)
