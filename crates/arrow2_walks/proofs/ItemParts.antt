-- Steps of an iterator over a part of a list, from both ends.
use Rattle.std.proofs.Common.{◌≡◌, ℕ, suc, ◌+◌, ◌-◌, ◌<◌, ◌≤◌, List, [], ◌∷◌, ◌++◌, take, drop, length, get_or, refl, ap, ◌∙◌, arith}
use Rattle.std.proofs.lemmas.List.{drop_more, take_more, length-drop, get_or-drop}
use Rattle.arrow2_model.specs.Lists.{part}
use Rattle.arrow2_model.proofs.Parts.{length-part}

module _ {X : Type 0} where
  pub part-none : (items : List X) (a n : ℕ) → n ≡ 0 → part items a n ≡ []
  part-none items a n e = rw e refl

  pub part-first : (items : List X) (i e : ℕ) (d : X) → i < e → e ≤ length items → part items i (e - i) ≡ get_or items i d ∷ part items (i + 1) (e - (i + 1))
  part-first items i e d h k =
      let n : e - i ≡ suc (e - (i + 1)) = omega arith in
      rw n (ap (take (suc (e - (i + 1)))) (drop_more items i d (omega arith)))

  pub part-last : (items : List X) (i e : ℕ) (d : X) → i < e → e ≤ length items → part items i (e - i) ≡ part items i (e - 1 - i) ++ get_or items (e - 1) d ∷ []
  part-last items i e d h k =
      let n : e - i ≡ (e - 1 - i) + 1 = omega arith in
      let m : i + (e - 1 - i) ≡ e - 1 = omega arith in
      let l = length-drop i items in
      rw n (take_more (drop i items) (e - 1 - i) d (omega arith) ∙ ap (λ x. part items i (e - 1 - i) ++ x ∷ []) (get_or-drop i items (e - 1 - i) d ∙ ap (λ q. get_or items q d) m))

pub ruleset iterating = (part-none, part-first, part-last, length-part)
