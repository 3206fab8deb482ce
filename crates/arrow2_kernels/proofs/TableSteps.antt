-- Tables of fewer inputs within tables of more.
use Rattle.std.proofs.Common.{◌≡◌, ℕ, zero, suc, ◌+◌, ◌/◌, ◌^◌, ◌<◌, ◌&&◌, ◌||◌, not, List, [], ◌∷◌, ◌++◌, Bool, true, false, map, cond, length, refl, ap, sym, ◌∙◌, arith}
use lib.Lanes.{zip2}
use mathlib.Core.Bool.{xor}
use Rattle.std.proofs.Math.Nat.{div-div-eq-div-mul, div-one, pow-suc, pow-succ'}
use Rattle.arrow2_model.specs.Lists.{bit, num, unnum}
use Rattle.arrow2_model.specs.Tables.{answer}
use Rattle.arrow2_model.proofs.Tables.{bit-zip2, bit-map}

-- bit i of a number without its lowest k bits
bit_down : (k i x : ℕ) → bit (x / 2 ^ k) i ≡ bit x (k + i)
unfolding bit
bit_down zero i x = let e : 0 + i ≡ i = omega arith in rw (e, div-one x) refl
bit_down (suc k) i x =
    let e : suc k + i ≡ suc (k + i) = omega arith in
    let d : x / 2 ^ suc k ≡ x / 2 / 2 ^ k = ap (λ (p : ℕ). x / p) (pow-succ' 2 k) ∙ sym (div-div-eq-div-mul x 2 (2 ^ k)) in
    rw (e, d) (bit_down k i (x / 2))

same_differ : (a : Bool) → xor a a ≡ false
unfolding xor
same_differ true = refl
same_differ false = refl

pub zero_bit : (w x r i : ℕ) → unnum w r ≡ zip2 xor (unnum w x) (unnum w x) → i < w → bit r i ≡ false
zero_bit w x r i is h = bit-zip2 w x x r i xor is h ∙ same_differ (bit x i)

pub ones_bit : (w x z r i : ℕ) → unnum w z ≡ zip2 xor (unnum w x) (unnum w x) → unnum w r ≡ map not (unnum w z) → i < w → bit r i ≡ true
ones_bit w x z r i zeros is h = bit-map w z r i not is h ∙ ap not (zero_bit w x z i zeros h)

pub chosen_bit : (w c a b n p q r i : ℕ) → unnum w p ≡ zip2 (λ a b. a && b) (unnum w a) (unnum w c) → unnum w n ≡ map not (unnum w c) → unnum w q ≡ zip2 (λ a b. a && b) (unnum w b) (unnum w n) → unnum w r ≡ zip2 (λ a b. a || b) (unnum w p) (unnum w q)
    → i < w → bit r i ≡ cond (bit c i) (bit a i) (bit b i)
chosen_bit w c a b n p q r i is-p is-n is-q is-r h =
    let f = bit-zip2 w a c p i (λ a b. a && b) is-p h in
    let g = bit-map w c n i not is-n h in
    let k = bit-zip2 w b n q i (λ a b. a && b) is-q h in
    let l = bit-zip2 w p q r i (λ a b. a || b) is-r h in
    l ∙ (ap (λ x. x || bit q i) f ∙ (ap (λ x. (bit a i && bit c i) || x) (k ∙ ap (λ x. bit b i && x) g) ∙ picked (bit a i) (bit b i) (bit c i)))
  where
    picked : (a b c : Bool) → ((a && c) || (b && not c)) ≡ cond c a b
    picked true true true = refl
    picked true true false = refl
    picked true false true = refl
    picked true false false = refl
    picked false true true = refl
    picked false true false = refl
    picked false false true = refl
    picked false false false = refl

-- a table of one input
pub unary_output : (t : ℕ) (a low high : Bool) → high ≡ bit t 1 → low ≡ bit t 0 → cond a high low ≡ answer t (a ∷ [])
unary_output t true low high h l = h
unary_output t false low high h l = l

-- the number of a list with one item more: for a true one, 2 ^ k more, where k is the length of the list
num-end : (xs : List Bool) (x : Bool) → num (xs ++ x ∷ []) ≡ cond x (2 ^ length xs + num xs) (num xs)
num-end [] true = omega arith
num-end [] false = omega arith
num-end (true ∷ xs) true = let e = num-end xs true in let p = pow-suc 2 (length xs) in omega (arith, e, p)
num-end (false ∷ xs) true = let e = num-end xs true in let p = pow-suc 2 (length xs) in omega (arith, e, p)
num-end (true ∷ xs) false = let e = num-end xs false in omega (arith, e)
num-end (false ∷ xs) false = let e = num-end xs false in omega (arith, e)

-- one input more: the other half of the table
pub wider_output : (t : ℕ) (xs : List Bool) (x : Bool) → cond x (answer (t / 2 ^ (2 ^ length xs)) xs) (answer t xs) ≡ answer t (xs ++ x ∷ [])
wider_output t xs true = bit_down (2 ^ length xs) (num xs) t ∙ ap (bit t) (sym (num-end xs true))
wider_output t xs false = ap (bit t) (sym (num-end xs false))
