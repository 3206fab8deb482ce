-- How many bytes a kernel takes of an array of byte strings: no more than there are in all.
use Rattle.std.proofs.Common.{◌≡◌, ℕ, zero, suc, ◌+◌, ◌<◌, ◌≤◌, List, [], ◌∷◌, Bool, true, false, length, get_or, map, take, sum, ap, ◌∙◌, arith, OnOk, Result, Ok, Err, flat_map, sum_by}
use Rattle.std.proofs.lemmas.List.{map_more, take-map}
use Rattle.std.proofs.lemmas.List.Sums.{sum_by-cons, sum_by-append, sum_by_push, sum_by-take-le}
use Rattle.arrow2_types.specs.declared.error.Error.{Error}
use Rattle.arrow2_walks.specs.Selections.{selection, choice}
use Rattle.arrow2_walks.proofs.Selections.{selections}

-- the sum of selected numbers is at most the sum of all
pub sum-selected : (ns : List ℕ) (ms : List Bool) → sum (selection ns ms) ≤ sum ns
sum-selected [] ms = omega arith
sum-selected (n ∷ ns) [] = omega arith
sum-selected (n ∷ ns) (true ∷ ms) =
    let a = sum_by-cons (λ x. x) n (selection ns ms) in
    let b = sum_by-cons (λ x. x) n ns in
    let c = sum-selected ns ms in omega (arith, a, b, c)
sum-selected (n ∷ ns) (false ∷ ms) =
    let b = sum_by-cons (λ x. x) n ns in
    let c = sum-selected ns ms in omega (arith, b, c)

module _ {Y : Type 0} (f : Y → List ℕ) where
  -- of one part more
  pub sum-first : (left rest : List Y) (y : Y) → left ≡ y ∷ rest → sum (flat_map f left) ≡ sum (f y) + sum (flat_map f rest)
  sum-first left rest y first = ap (λ l. sum (flat_map f l)) first ∙ sum_by-append (λ x. x) (f y) (flat_map f rest)

-- the items at the first indices and at one more weigh at most as much as those at all indices
pub taken-fits : {I X : Type 0} (weight : X → ℕ) (f : I → X) (xs : List I) (k : ℕ) (d : I) → k < length xs
    → sum_by weight (map f (take k xs)) + weight (f (get_or xs k d)) ≤ sum_by weight (map f xs)
taken-fits weight f xs k d less =
    let a = sum_by-take-le weight (map f xs) (k + 1) in
    let b = ap (sum_by weight) (take-map f (k + 1) xs ∙ map_more f xs k d less) in
    let e = sum_by_push weight (map f (take k xs)) (f (get_or xs k d)) in
    omega (arith, a, b, e)

-- the first items chosen between two lists weigh at most as much as all items chosen
pub chosen-fits : {X : Type 0} (weight : X → ℕ) (n : ℕ) (ms : List Bool) (xs ys : List X) → sum_by weight (choice (take n ms) (take n xs) (take n ys)) ≤ sum_by weight (choice ms xs ys)
chosen-fits weight zero ms xs ys = omega arith
chosen-fits weight (suc n) [] xs ys = omega arith
chosen-fits weight (suc n) (m ∷ ms) [] ys = omega arith
chosen-fits weight (suc n) (m ∷ ms) (x ∷ xs) [] = omega arith
chosen-fits weight (suc n) (true ∷ ms) (x ∷ xs) (y ∷ ys) =
    let a = sum_by-cons weight x (choice (take n ms) (take n xs) (take n ys)) in
    let b = sum_by-cons weight x (choice ms xs ys) in
    let c = chosen-fits weight n ms xs ys in omega (arith, a, b, c)
chosen-fits weight (suc n) (false ∷ ms) (x ∷ xs) (y ∷ ys) =
    let a = sum_by-cons weight y (choice (take n ms) (take n xs) (take n ys)) in
    let b = sum_by-cons weight y (choice ms xs ys) in
    let c = chosen-fits weight n ms xs ys in omega (arith, a, b, c)

-- a fact of each result is one of that which succeeded
pub of-ok : {T : Type 0} (r : Result T Error) (P : Type 0) → P → OnOk r P
of-ok (Ok u) P h = h
of-ok (Err e) P h = tt

pub ruleset weighed = (sum_by_push, sum-first, selections)
