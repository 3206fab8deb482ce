-- Steps of an iterator over the items of a bitmap, from both ends.
use Rattle.std.proofs.Common.{◌≡◌, ℕ, suc, ◌+◌, ◌-◌, ◌<◌, ◌≤◌, List, [], ◌∷◌, ◌++◌, Bool, false, take, length, get_or, ap, ◌∙◌, arith}
use Rattle.std.proofs.lemmas.List.{drop_more, take_all}
use Rattle.arrow2_model.specs.Lists.{part}
use Rattle.arrow2_model.proofs.Parts.{length-part, part_more}
use Rattle.arrow2_model.proofs.Cursors.{part_none}

-- all items
pub part_all : (items : List Bool) (n : ℕ) → n ≡ length items → part items 0 n ≡ items
part_all items n e = take_all n items (omega arith)

-- the first item, and the part after it
pub part_first : (items : List Bool) (i e n : ℕ) → i < e → e ≤ n → n ≡ length items → part items i (e - i) ≡ get_or items i false ∷ part items (i + 1) (e - (i + 1))
part_first items i e n h k l =
    let m : e - i ≡ suc (e - (i + 1)) = omega arith in
    rw m (ap (take (suc (e - (i + 1)))) (drop_more items i false (omega arith)))

-- the part up to the last item, and that item
pub part_last : (items : List Bool) (i e n : ℕ) → i < e → e ≤ n → n ≡ length items → part items i (e - i) ≡ part items i (e - 1 - i) ++ get_or items (e - 1) false ∷ []
part_last items i e n h k l =
    let m : e - i ≡ (e - 1 - i) + 1 = omega arith in
    let last : i + (e - 1 - i) ≡ e - 1 = omega arith in
    rw m (part_more items i (e - 1 - i) false (omega arith) ∙ ap (λ q. part items i (e - 1 - i) ++ get_or items q false ∷ []) last)

-- the number of items still to come
pub length-part_left : (items : List Bool) (i e n : ℕ) → i ≤ e → e ≤ n → n ≡ length items → length (part items i (e - i)) ≡ e - i
length-part_left items i e n h k l = length-part items i (e - i) (omega arith)

pub ruleset walking = (part_none, part_all, part_first, part_last, length-part_left)
