-- Truth tables as functions of booleans, item by item; and items by their values and whether they are null.
use Rattle.std.proofs.Common.{◌≡◌, ℕ, ◌<◌, ◌/◌, ◌%◌, List, [], ◌∷◌, Bool, true, false, not, length, map, refl, ap, sym, ◌∙◌, arith, Option, is_some, unwrap_or}
use Rattle.std.specs.Simd.Lanes.{zip2}
use Rattle.std.proofs.lemmas.List.{get_or-map, length-map}
use Rattle.std.proofs.lemmas.Simd.{length-zip2, get_or-zip2}
use Rattle.arrow2_model.specs.Lists.{bit}
use Rattle.arrow2_model.specs.Tables.{answer, each}
use Rattle.arrow2_model.proofs.Kernels.{each_from}
use Rattle.arrow2_walks.specs.Zipped.{zipped}
use Rattle.arrow2_walks.proofs.Zipped.{slot-option}
use Rattle.arrow2_compute.specs.Comparisons.{bool_eq, bool_le, bool_lt}

-- a table of one input, item by item
pub each-item : (t : ℕ) (xs : List Bool) → each t (xs ∷ []) ≡ map (λ x. answer t (x ∷ [])) xs
each-item t xs =
    let f = λ (x : Bool). answer t (x ∷ []) in
    sym (each_from t (xs ∷ []) (map f xs) (length-map xs f)
    (λ k less. let short : k < length xs = less in
    get_or-map f xs k false false short))

-- a table of two inputs, index by index
pub each-pair : (t : ℕ) (xs ys : List Bool) → length xs ≡ length ys → each t (xs ∷ ys ∷ []) ≡ zip2 (λ x y. answer t (x ∷ y ∷ [])) xs ys
each-pair t xs ys e =
    let f = λ (x y : Bool). answer t (x ∷ y ∷ []) in
    sym (each_from t (xs ∷ ys ∷ []) (zip2 f xs ys) (length-zip2 f xs ys e)
    (λ k less. let short : k < length xs = less in
    let also : k < length ys = omega (arith, short, e) in
    get_or-zip2 f xs ys k false false false short also))

-- a table of two inputs is the function that gives its four outputs
tabled : (t : ℕ) (f : Bool → Bool → Bool) → answer t (true ∷ true ∷ []) ≡ f true true → answer t (true ∷ false ∷ []) ≡ f true false → answer t (false ∷ true ∷ []) ≡ f false true → answer t (false ∷ false ∷ []) ≡ f false false
    → (λ x y. answer t (x ∷ y ∷ [])) ≡ f
tabled t f both left right none = λ i x y. at x y i
  where
    at : (x y : Bool) → answer t (x ∷ y ∷ []) ≡ f x y
    at true true = both
    at true false = left
    at false true = right
    at false false = none

pub eq-table : (λ (x y : Bool). answer 9 (x ∷ y ∷ [])) ≡ bool_eq
unfolding bit
eq-table = tabled 9 bool_eq refl refl refl refl

pub neq-table : ◌≡◌ {A = Bool → Bool → Bool} (λ (x y : Bool). answer 6 (x ∷ y ∷ [])) (λ (x y : Bool). not (bool_eq x y))
unfolding bit
neq-table = tabled 6 (λ (x y : Bool). not (bool_eq x y)) refl refl refl refl

pub lt-table : (λ (x y : Bool). answer 4 (x ∷ y ∷ [])) ≡ bool_lt
unfolding bit
lt-table = tabled 4 bool_lt refl refl refl refl

pub lt_eq-table : (λ (x y : Bool). answer 13 (x ∷ y ∷ [])) ≡ bool_le
unfolding bit
lt_eq-table = tabled 13 bool_le refl refl refl refl

pub gt-table : ◌≡◌ {A = Bool → Bool → Bool} (λ (x y : Bool). answer 2 (x ∷ y ∷ [])) (λ (x y : Bool). bool_lt y x)
unfolding bit
gt-table = tabled 2 (λ (x y : Bool). bool_lt y x) refl refl refl refl

pub gt_eq-table : ◌≡◌ {A = Bool → Bool → Bool} (λ (x y : Bool). answer 11 (x ∷ y ∷ [])) (λ (x y : Bool). bool_le y x)
unfolding bit
gt_eq-table = tabled 11 (λ (x y : Bool). bool_le y x) refl refl refl refl

-- a table of two inputs where the second one is true
pub beside-true : (t : ℕ) (value : Bool) → answer (t / 4) (value ∷ []) ≡ answer t (value ∷ true ∷ [])
unfolding bit
beside-true t true = let e : t / 4 ≡ t / 2 / 2 = omega arith in rw e refl
beside-true t false = let e : t / 4 ≡ t / 2 / 2 = omega arith in rw e refl

-- and where it is false
pub beside-false : (t : ℕ) (value : Bool) → answer (t % 4) (value ∷ []) ≡ answer t (value ∷ false ∷ [])
unfolding bit
beside-false t true = let e : t % 4 / 2 % 2 ≡ t / 2 % 2 = omega arith in rw e refl
beside-false t false = let e : t % 4 % 2 ≡ t % 2 = omega arith in rw e refl

-- items by their values, another one where an item is null, and which of them are not null
pub options-zipped : {X : Type 0} (items : List (Option X)) (d : X) → zipped (map (λ item. unwrap_or item d) items) (map is_some items) ≡ items
options-zipped [] d = refl
options-zipped (item ∷ items) d = ap (λ i. i ∷ zipped (map (λ item. unwrap_or item d) items) (map is_some items)) (slot-option item d) ∙ ap (λ l. item ∷ l) (options-zipped items d)
