-- Lemmas on values with their validity, for a column of one's own, and on items that a mask selects; and the rulesets
-- that a caller names in `using`.
use Rattle.std.proofs.Common.{◌≡◌, ℕ, ◌<◌, List, Bool, true, false, not, length, get_or, refl, ap, sym, ◌∙◌, arith, Option, None, is_none}
use Rattle.arrow2_walks.specs.Zipped.{slot, zipped}
pub use Rattle.arrow2_walks.proofs.Selections.{selected-more, chosen-more, selected-more_of, chosen-more_of, length-selected, count-selected, selected-runs, non_null_values-append, non_null_values-more, non_null_values-zipped, selections}
pub use Rattle.arrow2_walks.proofs.Zipped.{length-zipped, at-zipped, item-zipped, part-zipped, append-zipped, push-zipped, slot-option, nulls-zipped, columns}

module _ {X : Type 0} (xs : List X) (vs : List Bool) (items : List (Option X)) (k : ℕ) (d : X) (v : Bool) where
  -- the item at an index, from its value and its validity there
  pub slot-zipped : length vs ≡ length xs → zipped xs vs ≡ items → k < length items → v ≡ get_or vs k false → get_or items k None ≡ slot (get_or xs k d) v
  slot-zipped e is h stated =
      let l = length-zipped xs vs e in
      let n = ap length is in
      sym (ap (λ zs. get_or zs k None) is) ∙ (at-zipped xs vs k d e (omega (arith, l, n, h)) ∙ ap (slot (get_or xs k d)) (sym stated))

  is_none-slot : (x : X) (w : Bool) → not w ≡ is_none (slot x w)
  is_none-slot x true = refl
  is_none-slot x false = refl

  -- whether it is null
  pub null-zipped : length vs ≡ length xs → zipped xs vs ≡ items → k < length items → v ≡ get_or vs k false → not v ≡ is_none (get_or items k None)
  null-zipped e is h stated = is_none-slot (get_or xs k d) v ∙ ap is_none (sym (slot-zipped e is h stated))
