-- The tables of the operators, and their laws.
use Rattle.std.proofs.Common.{◌≡◌, ℕ, ◌-◌, ◌<◌, ◌&&◌, ◌||◌, not, List, [], ◌∷◌, Bool, true, false, length, get_or, map, replicate, refl, ap, sym, ◌∙◌, arith}
use mathlib.Core.Bool.{xor}
use lib.Lanes.{zip2}
use Rattle.std.proofs.lemmas.List.{ext_get_or, get_or-map, length-replicate, get_or-replicate}
use Rattle.std.proofs.lemmas.Simd.{get_or-zip2}
use Rattle.arrow2_model.specs.Lists.{bit, unnum}
use Rattle.arrow2_model.specs.Tables.{answer, each}
use Rattle.arrow2_model.proofs.Bits.{length-unnum, get_or-unnum}
use Rattle.arrow2_model.proofs.Kernels.{length-each, get_or-each, each_from}

-- ---- the tables of the operators

pub answer-not : (a : Bool) → answer 1 (a ∷ []) ≡ not a
unfolding bit
answer-not true = refl
answer-not false = refl

pub answer-and : (a b : Bool) → answer 8 (a ∷ b ∷ []) ≡ (a && b)
unfolding bit
answer-and true true = refl
answer-and true false = refl
answer-and false true = refl
answer-and false false = refl

pub answer-or : (a b : Bool) → answer 14 (a ∷ b ∷ []) ≡ (a || b)
unfolding bit
answer-or true true = refl
answer-or true false = refl
answer-or false true = refl
answer-or false false = refl

pub answer-xor : (a b : Bool) → answer 6 (a ∷ b ∷ []) ≡ xor a b
unfolding bit xor
answer-xor true true = refl
answer-xor true false = refl
answer-xor false true = refl
answer-xor false false = refl

-- a bit of a word that an operator made
pub bit-zip2 : (w x y r i : ℕ) (f : Bool → Bool → Bool) → unnum w r ≡ zip2 f (unnum w x) (unnum w y) → i < w → bit r i ≡ f (bit x i) (bit y i)
bit-zip2 w x y r i f e h =
    let p = length-unnum w x in
    let q = length-unnum w y in
    sym (get_or-unnum w r i false h)
    ∙ (ap (λ (u : List Bool). get_or u i false) e
    ∙ (get_or-zip2 f (unnum w x) (unnum w y) i false false false (omega (arith, p)) (omega (arith, q))
    ∙ (ap (λ t. f t (get_or (unnum w y) i false)) (get_or-unnum w x i false h) ∙ ap (f (bit x i)) (get_or-unnum w y i false h))))

pub bit-map : (w x r i : ℕ) (f : Bool → Bool) → unnum w r ≡ map f (unnum w x) → i < w → bit r i ≡ f (bit x i)
bit-map w x r i f e h =
    let p = length-unnum w x in
    sym (get_or-unnum w r i false h)
    ∙ (ap (λ (u : List Bool). get_or u i false) e
    ∙ (get_or-map f (unnum w x) i false false (omega (arith, p)) ∙ ap f (get_or-unnum w x i false h)))

-- ---- their laws

not_and : (a b : Bool) → not (a && b) ≡ (not a || not b)
not_and true true = refl
not_and true false = refl
not_and false true = refl
not_and false false = refl

xor_self : (a : Bool) → xor a a ≡ false
unfolding xor
xor_self true = refl
xor_self false = refl

not_not : (a : Bool) → not (not a) ≡ a
not_not true = refl
not_not false = refl

get_or-not : (xs : List Bool) (k : ℕ) → k < length xs → get_or (each 1 (xs ∷ [])) k false ≡ not (get_or xs k false)
get_or-not xs k h = get_or-each 1 (xs ∷ []) k h ∙ answer-not (get_or xs k false)

get_or-and : (xs ys : List Bool) (k : ℕ) → k < length xs → get_or (each 8 (xs ∷ ys ∷ [])) k false ≡ (get_or xs k false && get_or ys k false)
get_or-and xs ys k h = get_or-each 8 (xs ∷ ys ∷ []) k h ∙ answer-and (get_or xs k false) (get_or ys k false)

pub not-of-and : (xs ys : List Bool) → length xs ≡ length ys → each 1 (each 8 (xs ∷ ys ∷ []) ∷ []) ≡ each 14 (each 1 (xs ∷ []) ∷ each 1 (ys ∷ []) ∷ [])
not-of-and xs ys l =
    let both : List Bool = each 8 (xs ∷ ys ∷ []) in
    let m = length-each 8 (xs ∷ ys ∷ []) in
    let n = length-each 1 (xs ∷ []) in
    each_from 14 (each 1 (xs ∷ []) ∷ each 1 (ys ∷ []) ∷ []) (each 1 (both ∷ [])) (length-each 1 (both ∷ []) ∙ (m ∙ sym n))
    (λ k k<.
    let x< : k < length xs = omega (arith, n) in
    get_or-not both k (omega (arith, m)) ∙ (ap not (get_or-and xs ys k x<) ∙ (not_and (get_or xs k false) (get_or ys k false) ∙
    sym (answer-or (get_or (each 1 (xs ∷ [])) k false) (get_or (each 1 (ys ∷ [])) k false) ∙
    (ap (λ b. b || get_or (each 1 (ys ∷ [])) k false) (get_or-not xs k x<) ∙ ap (λ b. not (get_or xs k false) || b) (get_or-not ys k (omega arith)))))))

pub xor-self : (xs : List Bool) → each 6 (xs ∷ xs ∷ []) ≡ replicate (length xs) false
xor-self xs =
    let l = length-each 6 (xs ∷ xs ∷ []) in
    let r = length-replicate (length xs) false in
    ext_get_or false (each 6 (xs ∷ xs ∷ [])) (replicate (length xs) false) (l ∙ sym r)
    (λ k k<. let h : k < length xs = omega (arith, l) in
    get_or-each 6 (xs ∷ xs ∷ []) k h ∙ (answer-xor (get_or xs k false) (get_or xs k false) ∙ (xor_self (get_or xs k false) ∙ sym (get_or-replicate (length xs) k false false h))))

pub not-twice : (xs : List Bool) → each 1 (each 1 (xs ∷ []) ∷ []) ≡ xs
not-twice xs =
    let l = length-each 1 (xs ∷ []) in
    let m = length-each 1 (each 1 (xs ∷ []) ∷ []) in
    ext_get_or false (each 1 (each 1 (xs ∷ []) ∷ [])) xs (m ∙ l)
    (λ k k<. get_or-not (each 1 (xs ∷ [])) k (omega (arith, m)) ∙ (ap not (get_or-not xs k (omega (arith, l, m))) ∙ not_not (get_or xs k false)))

pub ruleset operators = (not-of-and, xor-self, not-twice)
