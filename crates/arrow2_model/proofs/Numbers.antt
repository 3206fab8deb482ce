-- Lists of booleans and their numbers.
use Rattle.std.proofs.Common.{◌≡◌, ℕ, zero, suc, ◌+◌, ◌*◌, ◌/◌, ◌%◌, ◌^◌, ◌<◌, ◌≤◌, ◌==◌, List, [], ◌∷◌, Bool, true, false, cond, drop, length, get_or, refl, ap, sym, ◌∙◌, arith, length-take, ext_get_or}
use Rattle.std.proofs.lemmas.Simd.{bit_mask_l, mask_l-lt}
use Rattle.std.proofs.Math.Nat.{pow-suc, pow-le-pow_right}
use Rattle.arrow2_model.specs.Lists.{bit, unnum, num, sum_of_powers, part}
use Rattle.arrow2_model.proofs.Bits.{bit_is, length-unnum, get_or-unnum}

pub lowest : (x : ℕ) → cond (x % 2 == 1) 1 0 ≡ x % 2
lowest x = grind arith

pub num-unnum : (w x : ℕ) → x < 2 ^ w → num (unnum w x) ≡ x
unfolding unnum
num-unnum zero x h = grind arith
num-unnum (suc w) x h = let e = pow-suc 2 w in let r = num-unnum w (x / 2) (omega (arith, e)) in rw (r, lowest x) (omega arith)

pub unnum-num : (items : List Bool) → unnum (length items) (num items) ≡ items
unfolding unnum
unnum-num [] = refl
unnum-num (true ∷ items) = let a : (1 + 2 * num items) % 2 ≡ 1 = omega arith in let b : (1 + 2 * num items) / 2 ≡ num items = omega arith in rw (a, b, unnum-num items)
unnum-num (false ∷ items) = let a : (0 + 2 * num items) % 2 ≡ 0 = omega arith in let b : (0 + 2 * num items) / 2 ≡ num items = omega arith in rw (a, b, unnum-num items)

pub bit-num : (items : List Bool) (i : ℕ) → bit (num items) i ≡ get_or items i false
bit-num items i = bit_is (num items) i ∙ (rw (bit_mask_l items i) (elim (get_or items i false) as (λ b. (cond b 1 0 == 1) ≡ b) [ true ↦ refl | false ↦ refl ]))

-- numbers with the same bits are the same
pub same_from_bits : (w x y : ℕ) → x < 2 ^ w → y < 2 ^ w → ((i : ℕ) → i < w → bit x i ≡ bit y i) → x ≡ y
same_from_bits w x y x< y< same =
    let m = length-unnum w x in
    let n = length-unnum w y in
    let lists : unnum w x ≡ unnum w y = ext_get_or false (unnum w x) (unnum w y) (m ∙ sym n)
    (λ i h. get_or-unnum w x i false (omega (arith, m)) ∙ (same i (omega (arith, m)) ∙ sym (get_or-unnum w y i false (omega (arith, m))))) in
    sym (num-unnum w x x<) ∙ (ap num lists ∙ num-unnum w y y<)

-- the number of at most w items is below 2 ^ w
pub num-part-lt : (w : ℕ) (items : List Bool) (a : ℕ) → num (part items a w) < 2 ^ w
num-part-lt w items a =
    let l = length-take w (drop a items) in
    let m = mask_l-lt (part items a w) in
    let q : 0 < 2 = omega arith in
    let le : length (part items a w) ≤ w = omega arith in
    let p = pow-le-pow_right {n = 2} q {i = length (part items a w)} {j = w} le in
    omega (arith, m, p)

-- the same sum with indices from k on
sum_of_powers-num : (k : ℕ) (items : List Bool) → sum_of_powers k items ≡ 2 ^ k * num items
sum_of_powers-num k [] = omega arith
sum_of_powers-num k (true ∷ items) = let p = pow-suc 2 k in let e : k + 1 ≡ suc k = omega arith in rw (sum_of_powers-num (k + 1) items, e, p) (omega arith)
sum_of_powers-num k (false ∷ items) = let p = pow-suc 2 k in let e : k + 1 ≡ suc k = omega arith in rw (sum_of_powers-num (k + 1) items, e, p) (omega arith)

pub num_is_sum : (items : List Bool) → num items ≡ sum_of_powers 0 items
num_is_sum items = sym (sum_of_powers-num 0 items ∙ omega arith)

pub ruleset numbers = (length-unnum, num-unnum, unnum-num, num_is_sum)
