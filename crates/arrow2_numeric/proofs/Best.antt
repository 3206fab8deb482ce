-- The result of a function that picks one of two items, over a list: the least or the greatest item.
use Rattle.std.proofs.Common.{◌≡◌, List, [], ◌∷◌, ◌++◌, Bool, true, false, refl, ap, sym, subst, ◌∙◌, append_assoc, inl, inr, All, ◌⊎◌, Option, Some, None, Contains, IsTrue, MatchOption, append-nil}
use Rattle.std.specs.Option.{option_map, option_map_or}
use Rattle.std.specs.Cmp.{IsTotalOrder, upto, tied_itself}
use Rattle.std.specs.Ordering.{is_le, is_ge, is_lt, is_gt, ord_min, ord_max, ordering_reverse}
use Rattle.std.specs.declared.cmp.Ordering.{Ordering}
use Rattle.std.specs.declared.cmp.Ordering.TheVariants.{Less, Equal, Greater}
use Rattle.std.proofs.lemmas.List.Elements.{All-push, All-weaker, All-nil, Contains-append_left, Contains-push}
use Rattle.arrow2_numeric.specs.Aggregates.{best_from}

module _ {X : Type 0} (f : X → X → X) where
  -- of two lists one after the other
  pub best-append : (best : Option X) (xs ys : List X) → best_from f best (xs ++ ys) ≡ best_from f (best_from f best xs) ys
  best-append best [] ys = refl
  best-append best (x ∷ xs) ys = best-append (Some (option_map_or (λ other. f other x) best x)) xs ys

  -- of a value before the others
  best-after : ((x y z : X) → f (f x y) z ≡ f x (f y z)) → (a x : X) (xs : List X) → best_from f (Some (f a x)) xs ≡ option_map (f a) (best_from f (Some x) xs)
  best-after associative a x [] = refl
  best-after associative a x (y ∷ ys) = ap (λ v. best_from f (Some v) ys) (associative a x y) ∙ best-after associative a (f x y) ys

  -- of both halves of a list
  pub best-halves : ((x y z : X) → f (f x y) z ≡ f x (f y z)) → (first middle best other : X) (front back left values : List X) (all : Option X) → values ≡ first ∷ front ++ middle ∷ back
      → Some best ≡ best_from f (Some first) front → best_from f (Some other) left ≡ best_from f (Some middle) back → all ≡ best_from f (Some (f best other)) left → all ≡ best_from f None values
  best-halves associative first middle best other front back left values all is-values is-best is-other is =
      is ∙ (best-after associative best other left ∙ (ap (option_map (f best)) is-other ∙ (sym (best-after associative best middle back)
      ∙ (ap (λ b. best_from f b (middle ∷ back)) is-best ∙ (sym (best-append (Some first) front (middle ∷ back)) ∙ ap (best_from f None) (sym is-values))))))

pub ruleset best = (best-append)

module _ {X : Type 0} (R : X → X → Type 0) (itself : (x : X) → R x x) (chain : (x y z : X) → R x y → R y z → R x z) (f : X → X → X)
    (picks : (x y : X) → ((f x y ≡ x) × R x y) ⊎ ((f x y ≡ y) × R y x)) where
  -- an item of the list that is in relation R to each item; none if the list is empty
  abbrev IsBest : List X → Option X → Type 0
  IsBest xs best = MatchOption best (xs ≡ []) (λ x. Contains xs x × All (R x) xs)

  one-more : (xs : List X) (best : Option X) (x : X) → IsBest xs best → IsBest (xs ++ x ∷ []) (Some (option_map_or (λ other. f other x) best x))
  one-more xs None x h = subst (λ (l : List X). IsBest (l ++ x ∷ []) (Some x)) (sym h) (Contains-push [] x, All-push (R x) [] x (All-nil (R x)) (itself x))
  one-more xs (Some best) x h = elim (picks best x) [
    | inl w ↦ subst (λ (r : X). IsBest (xs ++ x ∷ []) (Some r)) (sym w.0) (Contains-append_left xs (x ∷ []) best h.0, All-push (R best) xs x h.1 w.1)
    | inr w ↦ subst (λ (r : X). IsBest (xs ++ x ∷ []) (Some r)) (sym w.0) (Contains-push xs x, All-push (R x) xs x (All-weaker (R best) (R x) (λ y s. chain x best y w.1 s) xs h.1) (itself x))
  ]

  more : (xs ys : List X) (best : Option X) → IsBest xs best → IsBest (xs ++ ys) (best_from f best ys)
  more xs [] best h = subst (λ (l : List X). IsBest l best) (sym (append-nil xs)) h
  more xs (y ∷ ys) best h = subst (λ (l : List X). IsBest l (best_from f best (y ∷ ys))) (append_assoc xs (y ∷ []) ys) (more (xs ++ y ∷ []) ys (Some (option_map_or (λ other. f other y) best y)) (one-more xs best y h))

  -- the result over a list is such an item
  pub best-of_all : (xs : List X) (best : Option X) → best ≡ best_from f None xs → IsBest xs best
  best-of_all xs best is = subst (λ (o : Option X). IsBest xs o) (sym is) (more [] xs None refl)

le-not_gt : (o : Ordering) → is_le o ≡ true → is_gt o ≡ false
le-not_gt Less e = refl
le-not_gt Equal e = refl
le-not_gt Greater e = let never = e in cc

not_gt-le : (o : Ordering) → is_gt o ≡ false → is_le o ≡ true
not_gt-le Less e = refl
not_gt-le Equal e = refl
not_gt-le Greater e = let never = e in cc

ge-turned : (o : Ordering) → is_ge o ≡ is_le (ordering_reverse o)
ge-turned Less = refl
ge-turned Equal = refl
ge-turned Greater = refl

lt-le : (o : Ordering) → is_lt o ≡ true → is_le o ≡ true
lt-le Less e = refl
lt-le Equal e = let never = e in cc
lt-le Greater e = let never = e in cc

not_lt-le : (o : Ordering) → is_lt o ≡ false → is_le (ordering_reverse o) ≡ true
not_lt-le Less e = let never = e in cc
not_lt-le Equal e = refl
not_lt-le Greater e = refl

module _ {X : Type 0} {cmp : X → X → Ordering} (order : IsTotalOrder cmp) where
  le-itself : (x : X) → IsTrue (is_le (cmp x x))
  le-itself x = ap is_le (tied_itself order x)

  le-chain : (x y z : X) → IsTrue (is_le (cmp x y)) → IsTrue (is_le (cmp y z)) → IsTrue (is_le (cmp x z))
  le-chain x y z a b = not_gt-le (cmp x z) (upto order x y z (le-not_gt (cmp x y) a) (le-not_gt (cmp y z) b))

  turned : (x y : X) → is_ge (cmp x y) ≡ is_le (cmp y x)
  turned x y = ge-turned (cmp x y) ∙ ap is_le (sym (order.antisymm y x))

  ge-chain : (x y z : X) → IsTrue (is_ge (cmp x y)) → IsTrue (is_ge (cmp y z)) → IsTrue (is_ge (cmp x z))
  ge-chain x y z a b = turned x z ∙ le-chain z y x (sym (turned y z) ∙ b) (sym (turned x y) ∙ a)

  -- the lesser of two is the one that is at most the other
  lesser-by : (x y : X) (b : Bool) → is_lt (cmp y x) ≡ b → ((ord_min cmp x y ≡ x) × IsTrue (is_le (cmp x y))) ⊎ ((ord_min cmp x y ≡ y) × IsTrue (is_le (cmp y x)))
  lesser-by x y true e = inr (rw e refl, lt-le (cmp y x) e)
  lesser-by x y false e = inl (rw e refl, ap is_le (order.antisymm x y) ∙ not_lt-le (cmp y x) e)

  greater-by : (x y : X) (b : Bool) → is_lt (cmp y x) ≡ b → ((ord_max cmp x y ≡ x) × IsTrue (is_ge (cmp x y))) ⊎ ((ord_max cmp x y ≡ y) × IsTrue (is_ge (cmp y x)))
  greater-by x y true e = inl (rw e refl, turned x y ∙ lt-le (cmp y x) e)
  greater-by x y false e = inr (rw e refl, turned y x ∙ (ap is_le (order.antisymm x y) ∙ not_lt-le (cmp y x) e))

  pub least-of_all : (xs : List X) (best : Option X) → best ≡ best_from (ord_min cmp) None xs → MatchOption best (xs ≡ []) (λ x. Contains xs x × All (λ y. IsTrue (is_le (cmp x y))) xs)
  least-of_all = best-of_all (λ x y. IsTrue (is_le (cmp x y))) le-itself le-chain (ord_min cmp) (λ x y. lesser-by x y (is_lt (cmp y x)) refl)

  pub greatest-of_all : (xs : List X) (best : Option X) → best ≡ best_from (ord_max cmp) None xs → MatchOption best (xs ≡ []) (λ x. Contains xs x × All (λ y. IsTrue (is_ge (cmp x y))) xs)
  greatest-of_all = best-of_all (λ x y. IsTrue (is_ge (cmp x y))) (λ x. turned x x ∙ le-itself x) ge-chain (ord_max cmp) (λ x y. greater-by x y (is_lt (cmp y x)) refl)
