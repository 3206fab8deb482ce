-- Whether each item is valid, with a bitmap or without.
use Rattle.std.proofs.Common.{Bor, ◌≡◌, ℕ, ◌+◌, ◌<◌, ◌≤◌, List, [], ◌∷◌, Bool, true, false, length, get_or, replicate, refl, ap, sym, ◌∙◌, arith, ◌↔◌, Option, Some, None, IfSome, IsNone, MatchOption}
use Rattle.std.specs.Option.{ForSome, option_copied}
use Rattle.arrow2_model.specs.Lists.{bit, part, falses, BitmapStorage, items_of}
use Rattle.std.proofs.lemmas.List.{length-replicate, get_or-replicate, ext_get_or}
use Rattle.arrow2_model.specs.Tables.{answer, each}
use Rattle.arrow2_model.proofs.Parts.{get_or-part, length-part}
use Rattle.arrow2_model.proofs.Counts.{falses-all_true, falses-none}
use Rattle.arrow2_model.proofs.Kernels.{each_from}
use Rattle.arrow2_validity.specs.OptionalValidity.{items_or_true}

module _ (n : ℕ) where
  pub items-none : items_or_true n None ≡ replicate n true
  unfolding items_or_true
  items-none = refl

  pub items-some : (b : BitmapStorage) → items_or_true n (Some b) ≡ items_of b
  unfolding items_or_true
  items-some b = refl

-- there are n of them, by the bitmap's length where it is there
pub length-items : (n : ℕ) (bitmap : Option BitmapStorage) → ForSome bitmap (λ b. length (items_of b) ≡ n) → length (items_or_true n bitmap) ≡ n
unfolding items_or_true
length-items n None h = length-replicate n true
length-items n (Some b) h = h b refl

pub length-none : (n : ℕ) → length (items_or_true n None) ≡ n
unfolding items_or_true
length-none n = length-replicate n true

-- without a bitmap each is true
pub item-none : (n k : ℕ) → k < length (items_or_true n None) → true ≡ get_or (items_or_true n None) k false
unfolding items_or_true
item-none n k h = let l = length-replicate n true in sym (get_or-replicate n k true false (omega (arith, h)))

pub falses-items_none : (n : ℕ) → 0 ≡ falses (items_or_true n None)
unfolding items_or_true
falses-items_none n = sym (falses-all_true n)

-- a part of n true items
pub part-true : (n a m : ℕ) → a + m ≤ n → part (replicate n true) a m ≡ replicate m true
part-true n a m h =
    let l = length-replicate n true in
    let ln : length (part (replicate n true) a m) ≡ m = length-part (replicate n true) a m (omega (arith, l, h)) in
    ext_get_or false (part (replicate n true) a m) (replicate m true) (ln ∙ sym (length-replicate m true))
    (λ k less. get_or-part (replicate n true) a m k false (omega (arith, ln, less)) ∙ (get_or-replicate n (a + k) true false (omega (arith, ln, less, h)) ∙ sym (get_or-replicate m k true false (omega (arith, ln, less)))))

pub part-items_none : (n a m : ℕ) → a + m ≤ length (items_or_true n None) → items_or_true m None ≡ part (items_or_true n None) a m
unfolding items_or_true
part-items_none n a m h = let l = length-replicate n true in sym (part-true n a m (omega (arith, h)))

-- a bitmap that is left out where nothing is false
pub left-out : (n : ℕ) (vs : List Bool) (bitmap : Option BitmapStorage) → length vs ≡ n → (IsNone bitmap ↔ (falses vs ≡ 0)) → IfSome bitmap (λ b. items_of b ≡ vs) → items_or_true n bitmap ≡ vs
unfolding items_or_true
left-out n vs None e none some = ap (λ k. replicate k true) (sym e) ∙ sym (falses-none vs (none.0 refl))
left-out n vs (Some b) e none some = some

-- the bitmap that is returned, where there is one
pub known-bitmap : (n : ℕ) (bitmap : Option BitmapStorage) (r : Option (Bor BitmapStorage)) → option_copied r ≡ bitmap
    → MatchOption r (items_or_true n bitmap ≡ replicate (length (items_or_true n bitmap)) true) (λ b. items_of b.now ≡ items_or_true n bitmap)
unfolding items_or_true
known-bitmap n None None e = ap (λ k. replicate k true) (sym (length-replicate n true))
known-bitmap n (Some b) None e = let never = e in cc
known-bitmap n None (Some r) e = let never = e in cc
known-bitmap n (Some b) (Some r) e = let same : r.now ≡ b = cc in ap items_of same

true-and : (b : Bool) → answer 8 (true ∷ b ∷ []) ≡ b
unfolding bit
true-and true = refl
true-and false = refl

and-true : (b : Bool) → answer 8 (b ∷ true ∷ []) ≡ b
unfolding bit
and-true true = refl
and-true false = refl

-- where one side is valid throughout, both are valid where the other is
pub both-left : (n : ℕ) (ys : List Bool) → length ys ≡ n → ys ≡ each 8 (items_or_true n None ∷ ys ∷ [])
unfolding items_or_true
both-left n ys e =
    each_from 8 (replicate n true ∷ ys ∷ []) ys (e ∙ sym (length-replicate n true))
    (λ k less. let long : length (replicate n true) ≡ n = length-replicate n true in
    let short : k < length (replicate n true) = less in
    let set : get_or (replicate n true) k false ≡ true = get_or-replicate n k true false (omega (arith, long, short)) in
    rw set (sym (true-and (get_or ys k false))))

pub both-right : (n : ℕ) (xs : List Bool) → length xs ≡ n → xs ≡ each 8 (xs ∷ items_or_true n None ∷ [])
unfolding items_or_true
both-right n xs e =
    each_from 8 (xs ∷ replicate n true ∷ []) xs refl
    (λ k less. let set : get_or (replicate n true) k false ≡ true = get_or-replicate n k true false (omega (arith, e, less)) in rw set (sym (and-true (get_or xs k false))))

pub ruleset validities = (items-none, items-some, length-items, item-none, falses-items_none, part-items_none)
