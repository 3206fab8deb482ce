-- Lemmas on keys, which are indices that may be null, and on the items at them: for a dictionary of one's own.
use Rattle.std.proofs.Common.{◌≡◌, ℕ, zero, suc, List, [], ◌∷◌, Bool, true, false, All, map, get_or, refl, ap, sym, subst, Option, None, ℤ}
use Rattle.std.proofs.lemmas.List.{length-map}
use Rattle.std.proofs.lemmas.List.Elements.{All-cons, All-head, All-nil, All-tail}
use Rattle.arrow2_model.proofs.Parts.{part-map}
use Rattle.arrow2_walks.specs.Selections.{selection}
use Rattle.arrow2_compute.specs.Take.{IsInBoundsOrNull, item_at}

-- f of each item that a mask selects, as the item at each key
module _ {X Y : Type 0} (f : X → Y) where
  pub selected-map : (xs : List X) (mask : List Bool) → selection (map f xs) mask ≡ map f (selection xs mask)
  selected-map [] mask = refl
  selected-map (x ∷ xs) [] = refl
  selected-map (x ∷ xs) (true ∷ mask) = ap (λ rest. f x ∷ rest) (selected-map xs mask)
  selected-map (x ∷ xs) (false ∷ mask) = selected-map xs mask

module _ {I X : Type 0} (value : I → ℤ) (items : List (Option X)) where
  -- the item at an index is that of the key there
  pub at-keys : (keys : List (Option I)) (k : ℕ) → get_or (map (item_at value items) keys) k None ≡ item_at value items (get_or keys k None)
  at-keys [] k = refl
  at-keys (key ∷ keys) zero = refl
  at-keys (key ∷ keys) (suc k) = at-keys keys k

module _ {I : Type 0} (value : I → ℤ) (n : ℕ) where
  found-in_bounds : (keys : List (Option I)) (k : ℕ) → All (IsInBoundsOrNull value n) keys → IsInBoundsOrNull value n (get_or keys k None)
  found-in_bounds [] k all = tt
  found-in_bounds (key ∷ keys) zero all = All-head (IsInBoundsOrNull value n) key keys all
  found-in_bounds (key ∷ keys) (suc k) all = found-in_bounds keys k (All-tail (IsInBoundsOrNull value n) key keys all)

  -- the key at an index, of keys that are in bounds or null
  pub key-in_bounds : (keys : List (Option I)) (k : ℕ) (key : Option I) → key ≡ get_or keys k None → All (IsInBoundsOrNull value n) keys → IsInBoundsOrNull value n key
  key-in_bounds keys k key is all = subst (IsInBoundsOrNull value n) (sym is) (found-in_bounds keys k all)

  chosen-in_bounds : (keys : List (Option I)) (mask : List Bool) → All (IsInBoundsOrNull value n) keys → All (IsInBoundsOrNull value n) (selection keys mask)
  chosen-in_bounds [] mask all = all
  chosen-in_bounds (key ∷ keys) [] all = All-nil (IsInBoundsOrNull value n)
  chosen-in_bounds (key ∷ keys) (true ∷ mask) all =
      All-cons (IsInBoundsOrNull value n) key (selection keys mask) (All-head (IsInBoundsOrNull value n) key keys all) (chosen-in_bounds keys mask (All-tail (IsInBoundsOrNull value n) key keys all))
  chosen-in_bounds (key ∷ keys) (false ∷ mask) all = chosen-in_bounds keys mask (All-tail (IsInBoundsOrNull value n) key keys all)

  -- those that a mask selects
  pub selected-in_bounds : (keys kept : List (Option I)) (mask : List Bool) → kept ≡ selection keys mask → All (IsInBoundsOrNull value n) keys → All (IsInBoundsOrNull value n) kept
  selected-in_bounds keys kept mask is all = subst (All (IsInBoundsOrNull value n)) (sym is) (chosen-in_bounds keys mask all)

pub ruleset keys = (length-map, at-keys, key-in_bounds, part-map, selected-map)
