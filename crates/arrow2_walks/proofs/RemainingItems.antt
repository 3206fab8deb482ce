-- An iterator by the items still to come: the next item, and those after it.
use Rattle.std.proofs.Common.{◌≡◌, ℕ, suc, ◌+◌, ◌-◌, ◌++◌, ◌∷◌, List, All, length, get_or, take, drop, subst, ap, sym, ◌∙◌, append_assoc, arith, flat_map}
use Rattle.arrow2_model.specs.Lists.{part}

module _ {X : Type 0} {left rest : List X} {x : X} where
  -- a fact on all that were left holds of those that are left now
  pub left-all : (P : X → Type 0) → left ≡ x ∷ rest → All P left → All P rest
  left-all P first all = λ k d less. subst (λ (xs : List X). P (get_or xs (suc k) d)) first (all (suc k) d (omega (arith, ap length first, less)))

  -- the result of the item comes after the results of those before it
  pub left-done : {Y : Type 0} (f : X → List Y) (before after all : List Y) → left ≡ x ∷ rest → after ≡ before ++ f x → before ++ flat_map f left ≡ all → after ++ flat_map f rest ≡ all
  left-done f before after all first grown done =
      ap (λ ys. ys ++ flat_map f rest) grown ∙ (append_assoc before (f x) (flat_map f rest) ∙ (ap (λ xs. before ++ flat_map f xs) (sym first) ∙ done))

-- a part by where it starts and where it ends
pub part-between : {X : Type 0} (xs : List X) (start size : ℕ) → take (start + size - start) (drop start xs) ≡ part xs start size
part-between xs start size = let n : start + size - start ≡ size = omega arith in ap (λ k. take k (drop start xs)) n
