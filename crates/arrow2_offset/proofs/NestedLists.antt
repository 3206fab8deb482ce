-- Lists one after the other: how many, index by index, in parts, and with others after them; and the ruleset that a
-- column of texts or of lists names in `using`.
use Rattle.std.proofs.Common.{◌≡◌, ℕ, zero, suc, ◌+◌, ◌-◌, ◌<◌, ◌≤◌, List, [], ◌∷◌, ◌++◌, length, sum, take, drop, get_or, refl, ap, sym, ◌∙◌, arith, add-zero, Some, None, slice_get}
use Rattle.std.proofs.Math.Seq.{take-length}
use Rattle.std.proofs.lemmas.Option.{slice_get-get_or, slice_get_past}
use Rattle.std.proofs.lemmas.List.{length-take, take_all, get_or-take, get_or-drop, take-append-le, drop-append-le, length-drop, drop-take, drop-drop, take-take}
use Rattle.std.proofs.lemmas.List.Sums.{sum_by-cons, sum_by-take-drop}
use Rattle.arrow2_model.specs.Lists.{part}
use Rattle.arrow2_offset.specs.NestedLists.{cut}

sum-first : (start n : ℕ) (ns : List ℕ) → start + n + sum ns ≡ start + sum (n ∷ ns)
sum-first start n ns = let s = sum_by-cons (λ x. x) n ns in omega (arith, s)

module _ {X : Type 0} where
  pub length-cut : (xs : List X) (ns : List ℕ) → length (cut xs ns) ≡ length ns
  length-cut xs [] = refl
  length-cut xs (n ∷ ns) = ap suc (length-cut (drop n xs) ns)

  -- the list at an index of a part that is cut from index `start` on
  pub at-cut : (xs : List X) (start : ℕ) (ns : List ℕ) (k : ℕ) → k < length ns → get_or (cut (drop start xs) ns) k [] ≡ part xs (start + sum (take k ns)) (get_or ns k 0)
  at-cut xs start [] k h = absurd (omega (arith, h))
  at-cut xs start (n ∷ ns) zero h = ap (λ s. part xs s n) (sym (add-zero start))
  at-cut xs start (n ∷ ns) (suc k) h =
      ap (λ l. get_or (cut l ns) k []) (drop-drop n start xs)
      ∙ (at-cut xs (start + n) ns k (omega (arith, h)) ∙ ap (λ s. part xs s (get_or ns k 0)) (sum-first start n (take k ns)))

  -- the same, by where it starts and where it ends
  pub read-cut : (xs : List X) (start : ℕ) (ns : List ℕ) (lists : List (List X)) (k a b : ℕ) → cut (drop start xs) ns ≡ lists → k < length lists → a ≡ start + sum (take k ns) → b ≡ a + get_or ns k 0 → take (b - a) (drop a xs) ≡ get_or lists k []
  read-cut xs start ns lists k a b is h from to =
      let n = length-cut (drop start xs) ns in
      let size : b - a ≡ get_or ns k 0 = omega (arith, to) in
      let l = ap length is in
      ap (λ m. take m (drop a xs)) size ∙ (ap (λ s. part xs s (get_or ns k 0)) from
      ∙ (sym (at-cut xs start ns k (omega (arith, n, l, h))) ∙ ap (λ ls. get_or ls k []) is))

  drop-cut : (xs : List X) (start : ℕ) (ns : List ℕ) (a : ℕ) → drop a (cut (drop start xs) ns) ≡ cut (drop (start + sum (take a ns)) xs) (drop a ns)
  drop-cut xs start ns zero = ap (λ s. cut (drop s xs) ns) (sym (add-zero start))
  drop-cut xs start [] (suc a) = refl
  drop-cut xs start (n ∷ ns) (suc a) =
      ap (λ l. drop a (cut l ns)) (drop-drop n start xs)
      ∙ (drop-cut xs (start + n) ns a ∙ ap (λ s. cut (drop s xs) (drop a ns)) (sum-first start n (take a ns)))

  take-cut : (xs : List X) (ns : List ℕ) (n : ℕ) → take n (cut xs ns) ≡ cut xs (take n ns)
  take-cut xs ns zero = refl
  take-cut xs [] (suc n) = refl
  take-cut xs (m ∷ ns) (suc n) = ap (λ l. take m xs ∷ l) (take-cut (drop m xs) ns n)

  pub part-cut : (xs : List X) (start : ℕ) (ns : List ℕ) (a n : ℕ) → part (cut (drop start xs) ns) a n ≡ cut (drop (start + sum (take a ns)) xs) (part ns a n)
  part-cut xs start ns a n = ap (take n) (drop-cut xs start ns a) ∙ take-cut (drop (start + sum (take a ns)) xs) (drop a ns) n

  pub append-cut : (xs ys : List X) (ns ms : List ℕ) → sum ns ≡ length xs → cut (xs ++ ys) (ns ++ ms) ≡ cut xs ns ++ cut ys ms
  append-cut [] ys [] ms e = refl
  append-cut (x ∷ xs) ys [] ms e = absurd (omega (arith, e))
  append-cut xs ys (n ∷ ns) ms e =
      let s = sum_by-cons (λ x. x) n ns in
      let l = length-drop n xs in
      ap (λ t. t ∷ cut (drop n (xs ++ ys)) (ns ++ ms)) (take-append-le n xs ys (omega (arith, e, s)))
      ∙ ap (λ t. take n xs ∷ t) (ap (λ t. cut t (ns ++ ms)) (drop-append-le n xs ys (omega (arith, e, s))) ∙ append-cut (drop n xs) ys ns ms (omega (arith, e, s, l)))

  -- one list more
  pub push-cut : (xs ys : List X) (ns : List ℕ) (n : ℕ) → sum ns ≡ length xs → n ≡ length ys → cut (xs ++ ys) (ns ++ n ∷ []) ≡ cut xs ns ++ ys ∷ []
  push-cut xs ys ns n e size = append-cut xs ys ns (n ∷ []) e ∙ ap (λ l. cut xs ns ++ l ∷ []) (ap (λ k. take k ys) size ∙ take-length ys)

  -- the items after the lists make no difference
  enough-cut : (xs : List X) (n : ℕ) (ns : List ℕ) → sum ns ≤ n → cut (take n xs) ns ≡ cut xs ns
  enough-cut xs n [] h = refl
  enough-cut xs n (m ∷ ns) h =
      let s = sum_by-cons (λ x. x) m ns in
      let rest : n ≡ m + (n - m) = omega (arith, h, s) in
      ap (λ l. l ∷ cut (drop m (take n xs)) ns) (take-take m n xs (omega (arith, h, s)))
      ∙ ap (λ l. take m xs ∷ l) (ap (λ k. cut (drop m (take k xs)) ns) rest ∙ (ap (λ l. cut l ns) (drop-take m (n - m) xs) ∙ enough-cut (drop m xs) (n - m) ns (omega (arith, h, s))))

  -- others after them, by the part of the items that the others span
  pub extend-cut : (xs ys : List X) (start n k : ℕ) (ns ms : List ℕ) → sum ns ≡ length xs → n ≡ sum ms → length ms ≤ k → cut (xs ++ part ys start n) (ns ++ part ms 0 k) ≡ cut xs ns ++ cut (drop start ys) ms
  extend-cut xs ys start n k ns ms e size all =
      ap (λ l. cut (xs ++ part ys start n) (ns ++ l)) (take_all k ms all)
      ∙ (append-cut xs (part ys start n) ns ms e ∙ ap (λ l. cut xs ns ++ l) (enough-cut (drop start ys) n ms (omega (arith, size))))

-- the lengths of a part, and those before it, are no more than all
pub sum-part : (ns : List ℕ) (a n : ℕ) → sum (take a ns) + sum (part ns a n) ≤ sum ns
sum-part ns a n =
    let whole = sum_by-take-drop (λ x. x) ns a in
    let rest = sum_by-take-drop (λ x. x) (drop a ns) n in
    omega (arith, whole, rest)

pub ruleset nested = (length-cut, at-cut, part-cut, push-cut, extend-cut, sum-part)

module _ {X : Type 0} where
  -- an item of the list at an index, by where that list starts and where it ends
  pub item-cut : (xs : List X) (start : ℕ) (ns : List ℕ) (k a b i : ℕ) (d : X) → k < length ns → b ≤ length xs → a ≡ start + sum (take k ns) → b ≡ a + get_or ns k 0 → i < b - a → slice_get (get_or (cut (drop start xs) ns) k []) i ≡ Some (get_or xs (a + i) d)
  item-cut xs start ns k a b i d h inside from to less =
      let at = read-cut xs start ns (cut (drop start xs) ns) k a b refl (let n = length-cut (drop start xs) ns in omega (arith, n, h)) from to in
      let few = length-take (b - a) (drop a xs) in
      let rest = length-drop a xs in
      ap (λ l. slice_get l i) (sym at) ∙ (slice_get-get_or (take (b - a) (drop a xs)) i d (omega (arith, few, rest, inside, less)) ∙ ap (λ x. Some x) (get_or-take (b - a) (drop a xs) i d less ∙ get_or-drop a xs i d))

  pub past-cut : (xs : List X) (start : ℕ) (ns : List ℕ) (k a b i : ℕ) → k < length ns → a ≡ start + sum (take k ns) → b ≡ a + get_or ns k 0 → b - a ≤ i → slice_get (get_or (cut (drop start xs) ns) k []) i ≡ None
  past-cut xs start ns k a b i h from to more =
      let at = read-cut xs start ns (cut (drop start xs) ns) k a b refl (let n = length-cut (drop start xs) ns in omega (arith, n, h)) from to in
      ap (λ l. slice_get l i) (sym at) ∙ slice_get_past (take (b - a) (drop a xs)) i (let few = length-take (b - a) (drop a xs) in omega (arith, few, more))
