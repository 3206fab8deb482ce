-- Parts of lists.
use Rattle.std.proofs.Common.{◌≡◌, inl, inr, ℕ, zero, suc, ◌+◌, ◌-◌, ◌<◌, ◌≤◌, List, [], ◌∷◌, ◌++◌, Bool, false, map, take, drop, replicate, length, get_or, refl, ap, sym, ◌∙◌, arith, rules, take-add}
use Rattle.std.proofs.lemmas.Bool.{cases_lt}
use Rattle.std.proofs.lemmas.List.{get_or_append_left, get_or-append_right, get_or_past, places, take_more, get_or-drop, get_or-take, length-drop, drop-take, take-take, drop-drop, take_all, drop-append-le, drop-map, take-append-le, take-map}
use Rattle.arrow2_model.specs.Lists.{part}

pub get_or-part : {X : Type 0} → (items : List X) (a n k : ℕ) (d : X) → k < n → get_or (part items a n) k d ≡ get_or items (a + k) d
get_or-part items a n k d h = get_or-take n (drop a items) k d h ∙ get_or-drop a items k d

pub length-part : {X : Type 0} → (items : List X) (a n : ℕ) → a + n ≤ length items → length (part items a n) ≡ n
length-part items a n h = search (rules, places)

-- a part grows by the item after it
pub part_more : (items : List Bool) (a n : ℕ) (d : Bool) → a + n < length items → part items a (n + 1) ≡ part items a n ++ get_or items (a + n) d ∷ []
part_more items a n d h = let l = length-drop a items in take_more (drop a items) n d (omega arith) ∙ ap (λ x. part items a n ++ x ∷ []) (get_or-drop a items n d)

pub part-part : {X : Type 0} → (items : List X) (a n b m : ℕ) → b + m ≤ n → part (part items a n) b m ≡ part items (a + b) m
part-part items a n b m h = let e : n ≡ b + (n - b) = omega arith in rw e (rw drop-take (take-take m (n - b) (drop b (drop a items)) (omega arith) ∙ ap (take m) (drop-drop b a items)))

-- a part in two
pub part-add : {X : Type 0} (items : List X) (a n m : ℕ) → part items a (n + m) ≡ part items a n ++ part items (a + n) m
part-add items a n m = take-add n m (drop a items) ∙ ap (λ t. part items a n ++ take m t) (drop-drop n a items)

-- the first of a part, and the others
pub take-part : {X : Type 0} (items : List X) (a n m : ℕ) → n ≤ m → take n (part items a m) ≡ part items a n
take-part items a n m h = take-take n m (drop a items) h

pub drop-part : {X : Type 0} (items : List X) (a n m : ℕ) → drop n (part items a (n + m)) ≡ part items (a + n) m
drop-part items a n m = drop-take n m (drop a items) ∙ ap (take m) (drop-drop n a items)

-- a part of a front
pub part-front : {X : Type 0} (front back : List X) (a n : ℕ) → a + n ≤ length front → part (front ++ back) a n ≡ part front a n
part-front front back a n h =
    let d = length-drop a front in
    ap (take n) (drop-append-le a front back (omega arith)) ∙ take-append-le n (drop a front) back (omega (arith, d))

-- a list is a part of itself
pub part_all : {X : Type 0} (items : List X) (n : ℕ) → length items ≡ n → part items 0 n ≡ items
part_all items n e = take_all n items (omega (arith, e))

-- a part of a list that is made item by item
pub part-map : {X Y : Type 0} (f : X → Y) (xs : List X) (a n : ℕ) → part (map f xs) a n ≡ map f (part xs a n)
part-map f xs a n = ap (take n) (drop-map f a xs) ∙ take-map f n (drop a xs)

-- ---- false items after others

pub get_or-falses : (m i : ℕ) → get_or (replicate m false) i false ≡ false
get_or-falses zero i = refl
get_or-falses (suc m) zero = refl
get_or-falses (suc m) (suc i) = get_or-falses m i

-- after the items nothing is set
pub get_or-padded : (items : List Bool) (m i : ℕ) → get_or (items ++ replicate m false) i false ≡ get_or items i false
get_or-padded items m i = elim (cases_lt i (length items)) [
  | inl lt ↦ get_or_append_left items (replicate m false) false i lt
  | inr ge ↦ get_or-append_right items (replicate m false) (length items) i false refl ge ∙ (get_or-falses m (i - length items) ∙ sym (get_or_past items i false ge))
]
