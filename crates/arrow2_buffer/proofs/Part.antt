-- Parts of lists: their first and last items, and rulesets.
use Rattle.std.proofs.Common.{◌≡◌, ℕ, suc, ◌+◌, ◌-◌, ◌<◌, ◌≤◌, List, [], ◌∷◌, ◌++◌, take, drop, length, get_or, refl, ap, ◌∙◌, arith}
use Rattle.std.proofs.lemmas.List.{drop_more, take_more, get_or-drop, length-drop}
use Rattle.arrow2_model.specs.Lists.{part}
use Rattle.arrow2_model.proofs.Parts.{part-part}

pub part_none : {X : Type 0} (items : List X) (a n : ℕ) → n ≡ 0 → part items a n ≡ []
part_none items a n e = rw e refl

-- the first item, and the part after it
pub part_first : {X : Type 0} (items : List X) (i e : ℕ) (x : X) → i < e → e ≤ length items → x ≡ get_or items i x → part items i (e - i) ≡ x ∷ part items (i + 1) (e - (i + 1))
part_first items i e x h k is =
    let n : e - i ≡ suc (e - (i + 1)) = omega arith in
    rw n (ap (take (suc (e - (i + 1)))) (drop_more items i x (omega arith)) ∙ rw (← is) refl)

-- the part up to the last item, and that item
pub part_last : {X : Type 0} (items : List X) (i e : ℕ) (x : X) → i < e → e ≤ length items → x ≡ get_or items (e - 1) x → part items i (e - i) ≡ part items i (e - 1 - i) ++ x ∷ []
part_last items i e x h k is =
    let n : e - i ≡ (e - 1 - i) + 1 = omega arith in
    let m : i + (e - 1 - i) ≡ e - 1 = omega arith in
    let l = length-drop i items in
    rw n (take_more (drop i items) (e - 1 - i) x (omega (arith, l)) ∙ rw (get_or-drop, m) (rw (← is) refl))

pub ruleset slicing = (part-part)

pub ruleset walking = (part_none, part_first, part_last)
