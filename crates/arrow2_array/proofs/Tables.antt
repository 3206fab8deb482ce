-- Kleene's logic by truth tables over values and validities.
use Rattle.std.proofs.Common.{◌≡◌, ℕ, zero, suc, ◌<◌, List, [], ◌∷◌, Bool, true, false, length, get_or, replicate, refl, ap, sym, ◌∙◌, arith, Option, None}
use Rattle.std.proofs.lemmas.List.{ext_get_or, length-replicate, get_or-replicate}
use Rattle.arrow2_model.specs.Lists.{bit}
use Rattle.arrow2_model.specs.Tables.{answer, each}
use Rattle.arrow2_walks.specs.Zipped.{slot, zipped}
use Rattle.arrow2_model.proofs.Kernels.{length-each, get_or-each, each_from}
use Rattle.arrow2_walks.proofs.Zipped.{length-zipped, at-zipped}
use Rattle.arrow2_array.specs.Kleene.{AgreesWhereOneIsValid, NullableOperator, TablesCompute, by_items, kleene_and, kleene_or}

-- ---- functions of up to four booleans, which are equal where all their values are

module _ {X : Type 0} where
  abbrev values1 : (Bool → X) → X × X
  values1 f = (f true, f false)

  abbrev values2 : (Bool → Bool → X) → (X × X) × (X × X)
  values2 f = (values1 (f true), values1 (f false))

  abbrev values3 : (Bool → Bool → Bool → X) → ((X × X) × (X × X)) × ((X × X) × (X × X))
  values3 f = (values2 (f true), values2 (f false))

  same1 : (f g : Bool → X) → values1 f ≡ values1 g → (a : Bool) → f a ≡ g a
  same1 f g e true = ap (λ v. v.0) e
  same1 f g e false = ap (λ v. v.1) e

  same2 : (f g : Bool → Bool → X) → values2 f ≡ values2 g → (a b : Bool) → f a b ≡ g a b
  same2 f g e true = same1 (f true) (g true) (ap (λ v. v.0) e)
  same2 f g e false = same1 (f false) (g false) (ap (λ v. v.1) e)

  same3 : (f g : Bool → Bool → Bool → X) → values3 f ≡ values3 g → (a b c : Bool) → f a b c ≡ g a b c
  same3 f g e true = same2 (f true) (g true) (ap (λ v. v.0) e)
  same3 f g e false = same2 (f false) (g false) (ap (λ v. v.1) e)

  same4 : (f g : Bool → Bool → Bool → Bool → X) → values3 (f true) ≡ values3 (g true) → values3 (f false) ≡ values3 (g false) → (a b c d : Bool) → f a b c d ≡ g a b c d
  same4 f g e h true = same3 (f true) (g true) e
  same4 f g e h false = same3 (f false) (g false) h

-- ---- one item

pub and_paired_table : AgreesWhereOneIsValid 207 53060
unfolding bit
and_paired_table = record {
  second = same3 (λ a n b. answer 207 (a ∷ n ∷ b ∷ [])) (λ a n b. answer 53060 (a ∷ n ∷ b ∷ true ∷ [])) refl;
  first = same3 (λ a b m. answer 207 (b ∷ m ∷ a ∷ [])) (λ a b m. answer 53060 (a ∷ true ∷ b ∷ m ∷ [])) refl;
  both = same2 (λ a b. answer 53060 (a ∷ true ∷ b ∷ true ∷ [])) (λ a b. true) refl;
}

pub or_paired_table : AgreesWhereOneIsValid 252 64648
unfolding bit
or_paired_table = record {
  second = same3 (λ a n b. answer 252 (a ∷ n ∷ b ∷ [])) (λ a n b. answer 64648 (a ∷ n ∷ b ∷ true ∷ [])) refl;
  first = same3 (λ a b m. answer 252 (b ∷ m ∷ a ∷ [])) (λ a b m. answer 64648 (a ∷ true ∷ b ∷ m ∷ [])) refl;
  both = same2 (λ a b. answer 64648 (a ∷ true ∷ b ∷ true ∷ [])) (λ a b. true) refl;
}

pub and_spelled : TablesCompute 8 53060 kleene_and
unfolding bit
and_spelled = same4 (λ a n b m. slot (answer 8 (a ∷ b ∷ [])) (answer 53060 (a ∷ n ∷ b ∷ m ∷ []))) (λ a n b m. kleene_and (slot a n) (slot b m)) refl refl

pub or_spelled : TablesCompute 14 64648 kleene_or
unfolding bit
or_spelled = same4 (λ a n b m. slot (answer 14 (a ∷ b ∷ [])) (answer 64648 (a ∷ n ∷ b ∷ m ∷ []))) (λ a n b m. kleene_or (slot a n) (slot b m)) refl refl

-- ---- item by item

-- items that are all valid, by another list of that length
pub all_set : (ns xs : List Bool) → ns ≡ replicate (length ns) true → length ns ≡ length xs → ns ≡ replicate (length xs) true
all_set ns xs is e = is ∙ ap (λ n. replicate n true) e

-- where all are valid, a table whose output is true there gives no more than all set
pub all_known : (t : ℕ) (xs ns ys ms : List Bool) → ((a b : Bool) → answer t (a ∷ true ∷ b ∷ true ∷ []) ≡ true) → length xs ≡ length ys → ns ≡ replicate (length xs) true → ms ≡ replicate (length ys) true
    → replicate (length xs) true ≡ each t (xs ∷ ns ∷ ys ∷ ms ∷ [])
all_known t xs ns ys ms known e is-n is-m =
    each_from t (xs ∷ ns ∷ ys ∷ ms ∷ []) (replicate (length xs) true) (length-replicate (length xs) true)
    (λ k k<.
    let left : get_or (replicate (length xs) true) k false ≡ true = get_or-replicate (length xs) k true false k< in
    let right : get_or (replicate (length ys) true) k false ≡ true = get_or-replicate (length ys) k true false (omega (arith, e)) in
    left ∙ rw (is-n, is-m, left, right) (sym (known (get_or xs k false) (get_or ys k false))))

-- a table of three lists has the outputs of one of four, if the fourth list is true everywhere
pub paired_right : (t u : ℕ) (xs ns ys ms : List Bool) → ((a n b : Bool) → answer u (a ∷ n ∷ b ∷ []) ≡ answer t (a ∷ n ∷ b ∷ true ∷ [])) → length xs ≡ length ys → ms ≡ replicate (length ys) true
    → each u (xs ∷ ns ∷ ys ∷ []) ≡ each t (xs ∷ ns ∷ ys ∷ ms ∷ [])
paired_right t u xs ns ys ms paired e is =
    each_from t (xs ∷ ns ∷ ys ∷ ms ∷ []) (each u (xs ∷ ns ∷ ys ∷ [])) (length-each u (xs ∷ ns ∷ ys ∷ []))
    (λ k k<.
    let set : get_or (replicate (length ys) true) k false ≡ true = get_or-replicate (length ys) k true false (omega (arith, e)) in
    get_or-each u (xs ∷ ns ∷ ys ∷ []) k k< ∙ rw (is, set) (paired (get_or xs k false) (get_or ns k false) (get_or ys k false)))

pub paired_left : (t u : ℕ) (xs ns ys ms : List Bool) → ((a b m : Bool) → answer u (b ∷ m ∷ a ∷ []) ≡ answer t (a ∷ true ∷ b ∷ m ∷ [])) → length xs ≡ length ys → ns ≡ replicate (length xs) true
    → each u (ys ∷ ms ∷ xs ∷ []) ≡ each t (xs ∷ ns ∷ ys ∷ ms ∷ [])
paired_left t u xs ns ys ms following e is =
    each_from t (xs ∷ ns ∷ ys ∷ ms ∷ []) (each u (ys ∷ ms ∷ xs ∷ [])) (length-each u (ys ∷ ms ∷ xs ∷ []) ∙ sym e)
    (λ k k<.
    let set : get_or (replicate (length xs) true) k false ≡ true = get_or-replicate (length xs) k true false k< in
    get_or-each u (ys ∷ ms ∷ xs ∷ []) k (omega (arith, e)) ∙ rw (is, set) (following (get_or xs k false) (get_or ys k false) (get_or ms k false)))

length-by_items : (f : NullableOperator) (xs ys : List (Option Bool)) → length xs ≡ length ys → length (by_items f xs ys) ≡ length xs
length-by_items f [] ys e = refl
length-by_items f (x ∷ xs) [] e = absurd (omega (arith, e))
length-by_items f (x ∷ xs) (y ∷ ys) e = ap suc (length-by_items f xs ys (omega (arith, e)))

get_or-by_items : (f : NullableOperator) (xs ys : List (Option Bool)) (k : ℕ) → length xs ≡ length ys → k < length xs → get_or (by_items f xs ys) k None ≡ f (get_or xs k None) (get_or ys k None)
get_or-by_items f [] ys k e h = absurd (omega (arith, h))
get_or-by_items f (x ∷ xs) [] k e h = absurd (omega (arith, e))
get_or-by_items f (x ∷ xs) (y ∷ ys) zero e h = refl
get_or-by_items f (x ∷ xs) (y ∷ ys) (suc k) e h = get_or-by_items f xs ys k (omega (arith, e)) (omega (arith, h))

pub by_tables : (v t : ℕ) (f : NullableOperator) (xs ns ys ms : List Bool) → TablesCompute v t f → length ns ≡ length xs → length ys ≡ length xs → length ms ≡ length xs
    → zipped (each v (xs ∷ ys ∷ [])) (each t (xs ∷ ns ∷ ys ∷ ms ∷ [])) ≡ by_items f (zipped xs ns) (zipped ys ms)
by_tables v t f xs ns ys ms spelled n y m =
    let values : List Bool = each v (xs ∷ ys ∷ []) in
    let validity : List Bool = each t (xs ∷ ns ∷ ys ∷ ms ∷ []) in
    let lv : length values ≡ length xs = length-each v (xs ∷ ys ∷ []) in
    let lt : length validity ≡ length xs = length-each t (xs ∷ ns ∷ ys ∷ ms ∷ []) in
    let la = length-zipped values validity (lt ∙ sym lv) in
    let lx = length-zipped xs ns n in
    let ly = length-zipped ys ms (m ∙ sym y) in
    let lb = length-by_items f (zipped xs ns) (zipped ys ms) (lx ∙ sym (ly ∙ y)) in
    ext_get_or None (zipped values validity) (by_items f (zipped xs ns) (zipped ys ms)) (la ∙ (lv ∙ sym (lb ∙ lx)))
    (λ k k<.
    let h : k < length xs = omega (arith, la, lv) in
    at-zipped values validity k false (lt ∙ sym lv) (omega (arith, lv, h))
    ∙ (ap (λ b. slot b (get_or validity k false)) (get_or-each v (xs ∷ ys ∷ []) k h)
    ∙ (ap (slot (answer v (get_or xs k false ∷ get_or ys k false ∷ []))) (get_or-each t (xs ∷ ns ∷ ys ∷ ms ∷ []) k h)
    ∙ (spelled (get_or xs k false) (get_or ns k false) (get_or ys k false) (get_or ms k false)
    ∙ sym (get_or-by_items f (zipped xs ns) (zipped ys ms) k (lx ∙ sym (ly ∙ y)) (omega (arith, lx, h))
    ∙ (ap (λ o. f o (get_or (zipped ys ms) k None)) (at-zipped xs ns k false n h) ∙ ap (f (slot (get_or xs k false) (get_or ns k false))) (at-zipped ys ms k false (m ∙ sym y) (omega (arith, y, h)))))))))
