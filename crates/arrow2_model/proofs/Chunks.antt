-- The effect of the operators on words on the bits of a word, at any width.
use Rattle.std.proofs.Common.{◌≡◌, ℕ, zero, suc, ◌+◌, ◌-◌, ◌*◌, ◌/◌, ◌%◌, ◌^◌, ◌<◌, ◌≤◌, ◌==◌, Bool, ◌&&◌, ◌||◌, not, map, List, [], ◌∷◌, ◌++◌, length, get_or, take, drop, replicate, false, refl, ap, sym, ◌∙◌, inl, inr, arith, min, max, subst, pow-add, add-zero, slice_index, bit_and, bit_or, bit_xor}
use Rattle.std.specs.Int.{bit_at, bytes_low_first}
use mathlib.Core.Bool.{xor}
use lib.Lanes.{zip2}
use Rattle.std.proofs.Math.Nat.{div-div-eq-div-mul, div-lt_iff_lt-mul, div-one, mod-lt, pow-suc, pow-succ'}
use Rattle.std.proofs.lemmas.Bool.{cases_lt}
use Rattle.std.proofs.lemmas.List.{drop_more, ext_get_or, get_or_append_left, get_or-append_right, get_or-take, get_or-drop, length-append, length-take, length-drop, length-replicate, get_or-replicate, take_all, append-nil}
use Rattle.std.proofs.lemmas.Simd.{length-zip2, get_or-zip2}
use Rattle.std.proofs.lemmas.Nat.{shr_split, pow_pos, one_shl, or_lt, xor_lt}
use Rattle.std.proofs.lemmas.Nat.Bits.{bit_at_and, bit_at_or, bit_at_xor, bit_at-lt, bit_at-zero, bit_at_above, bit_at_cat_low, bit_at_cat_high}
use Rattle.arrow2_model.specs.Lists.{unnum, bit, bits, num, part}
use Rattle.arrow2_model.specs.Digits.{low_digits, natural_from}
use Rattle.arrow2_model.proofs.Bits.{bit_is, bit_shifted, get_or-unnum, length-unnum, bits-nil, bits-cons, length-bits}
use Rattle.arrow2_model.proofs.Parts.{length-part}
use Rattle.arrow2_model.proofs.Numbers.{num-unnum, unnum-num}
use Rattle.arrow2_model.proofs.Digits.{low_digits-zero, low_digits-suc, natural_from-all, natural_from-lt, low_digits-number, low_bytes}

-- a list with the bits of x is the word x
pub word_is : (w x : ℕ) (xs : List Bool) → length xs ≡ w → ((i : ℕ) → i < w → get_or xs i false ≡ (bit_at x i == 1)) → unnum w x ≡ xs
word_is w x xs l h =
    let n = length-unnum w x in
    ext_get_or false (unnum w x) xs (n ∙ sym l) (λ i k. get_or-unnum w x i false (omega (arith, n)) ∙ (bit_is x i ∙ sym (h i (omega (arith, n)))))

pub item_is : (w x i : ℕ) → i < w → get_or (unnum w x) i false ≡ (bit_at x i == 1)
item_is w x i h = get_or-unnum w x i false h ∙ bit_is x i

pub same_test : (a b : ℕ) → a ≡ b → (a == 1) ≡ (b == 1)
same_test a b e = ap (λ t. t == 1) e

bit_at_down : (x n i : ℕ) → bit_at (x / 2 ^ n) i ≡ bit_at x (n + i)
bit_at_down x n i =
    let cat = bit_at_cat_high (x / 2 ^ n) n (x % 2 ^ n) (n + i) (mod-lt x (pow_pos n)) (omega arith) in
    let e : n + i - n ≡ i = omega arith in
    sym (ap (λ t. bit_at t (n + i)) (sym (shr_split x n)) ∙ (cat ∙ ap (bit_at (x / 2 ^ n)) e))

bit_at_low : (x n i : ℕ) → i < n → bit_at (x % 2 ^ n) i ≡ bit_at x i
bit_at_low x n i h = sym (ap (λ t. bit_at t i) (sym (shr_split x n)) ∙ bit_at_cat_low (x / 2 ^ n) n (x % 2 ^ n) i h)

-- items and then false
items_then_false : (n m i : ℕ) (xs : List Bool) (b : ℕ) → length xs ≡ n → (i < n → get_or xs i false ≡ (b == 1)) → (n ≤ i → b ≡ 0) → i < n + m → get_or (xs ++ replicate m false) i false ≡ (b == 1)
items_then_false n m i xs b l front following h = elim (cases_lt i n) [
  | inl inside ↦ get_or_append_left xs (replicate m false) false i (omega (arith, l)) ∙ front inside
  | inr past ↦ get_or-append_right xs (replicate m false) n i false l past ∙ (get_or-replicate m (i - n) false false (omega arith) ∙ sym (same_test b 0 (following past)))
]

-- false and then items
false_then_items : (n i : ℕ) (xs : List Bool) (b : ℕ) → (i < n → b ≡ 0) → (n ≤ i → get_or xs (i - n) false ≡ (b == 1)) → get_or (replicate n false ++ xs) i false ≡ (b == 1)
false_then_items n i xs b front following = let l = length-replicate n false in elim (cases_lt i n) [
  | inl inside ↦ get_or_append_left (replicate n false) xs false i (omega (arith, l)) ∙ (get_or-replicate n i false false inside ∙ sym (same_test b 0 (front inside)))
  | inr past ↦ get_or-append_right (replicate n false) xs n i false l past ∙ following past
]

-- ---- shifts

-- `x >> n`
pub unnum-down : (w x n : ℕ) → x < 2 ^ w → n ≤ w → unnum w (x / 2 ^ n) ≡ drop n (unnum w x) ++ replicate n false
unnum-down w x n h k =
    let p = length-unnum w x in
    let d = length-drop n (unnum w x) in
    let r = length-replicate n false in
    let a = length-append (drop n (unnum w x)) (replicate n false) in
    let e : (w - n) + n ≡ w = omega arith in
    let whole : 2 ^ w ≡ 2 ^ (w - n) * 2 ^ n = sym (ap (λ t. 2 ^ t) e) ∙ pow-add 2 (w - n) n in
    let small : x / 2 ^ n < 2 ^ (w - n) = (div-lt_iff_lt-mul (pow_pos n)).1 (subst (λ t. x < t) whole h) in
    word_is w (x / 2 ^ n) (drop n (unnum w x) ++ replicate n false) (omega (arith, p, d, r, a))
    (λ i l. items_then_false (w - n) n i (drop n (unnum w x)) (bit_at (x / 2 ^ n) i) (d ∙ ap (λ t. t - n) p)
    (λ inside. get_or-drop n (unnum w x) i false ∙ (item_is w x (n + i) (omega arith) ∙ same_test (bit_at x (n + i)) (bit_at (x / 2 ^ n) i) (sym (bit_at_down x n i))))
    (λ past. bit_at_above (x / 2 ^ n) (w - n) i small past) (omega arith))

-- `x << n`
pub unnum-up : (w x n : ℕ) → n ≤ w → unnum w (x * 2 ^ n % 2 ^ w) ≡ replicate n false ++ take (w - n) (unnum w x)
unnum-up w x n k =
    let p = length-unnum w x in
    let t = length-take (w - n) (unnum w x) in
    let r = length-replicate n false in
    let a = length-append (replicate n false) (take (w - n) (unnum w x)) in
    let moved : (i : ℕ) → bit_at (x * 2 ^ n) i ≡ bit_at (x * 2 ^ n + 0) i = λ i. ap (λ u. bit_at u i) (sym (add-zero (x * 2 ^ n))) in
    word_is w (x * 2 ^ n % 2 ^ w) (replicate n false ++ take (w - n) (unnum w x)) (grind (arith, p, t, r, a))
    (λ i l. false_then_items n i (take (w - n) (unnum w x)) (bit_at (x * 2 ^ n % 2 ^ w) i)
    (λ inside. bit_at_low (x * 2 ^ n) w i l ∙ (moved i ∙ (bit_at_cat_low x n 0 i inside ∙ bit_at-zero i)))
    (λ past. get_or-take (w - n) (unnum w x) (i - n) false (omega arith) ∙ (item_is w x (i - n) (omega arith) ∙
    same_test (bit_at x (i - n)) (bit_at (x * 2 ^ n % 2 ^ w) i) (sym (bit_at_low (x * 2 ^ n) w i l ∙ (moved i ∙ bit_at_cat_high x n 0 i (pow_pos n) past))))))

-- `x % 2 ^ n`
pub unnum-low : (w x n : ℕ) → n ≤ w → unnum w (x % 2 ^ n) ≡ take n (unnum w x) ++ replicate (w - n) false
unnum-low w x n k =
    let p = length-unnum w x in
    let t = length-take n (unnum w x) in
    let r = length-replicate (w - n) false in
    let a = length-append (take n (unnum w x)) (replicate (w - n) false) in
    word_is w (x % 2 ^ n) (take n (unnum w x) ++ replicate (w - n) false) (grind (arith, p, t, r, a))
    (λ i l. items_then_false n (w - n) i (take n (unnum w x)) (bit_at (x % 2 ^ n) i) (grind (arith, p, t))
    (λ inside. get_or-take n (unnum w x) i false inside ∙ (item_is w x i l ∙ same_test (bit_at x i) (bit_at (x % 2 ^ n) i) (sym (bit_at_low x n i inside))))
    (λ past. bit_at_above (x % 2 ^ n) n i (mod-lt x (pow_pos n)) past) (omega arith))

-- `x % (1 << n)`
pub unnum-masked : (w x n : ℕ) → n < w → unnum w (x % (1 * 2 ^ n % 2 ^ w)) ≡ take n (unnum w x) ++ replicate (w - n) false
unnum-masked w x n h = rw (one_shl n w h) (unnum-low w x n (omega arith))

-- all bits are kept
pub unnum-kept : (w x n : ℕ) → n ≡ w → unnum w x ≡ take n (unnum w x) ++ replicate (w - n) false
unnum-kept w x n e =
    let p = length-unnum w x in
    let none : w - n ≡ zero = omega arith in
    rw none (sym (append-nil (take n (unnum w x)) ∙ take_all n (unnum w x) (omega arith)))

-- ---- operators on each bit

both_one : (a b : ℕ) → a < 2 → b < 2 → (min a b == 1) ≡ ((a == 1) && (b == 1))
both_one a b h k = grind arith

either_one : (a b : ℕ) → a < 2 → b < 2 → (max a b == 1) ≡ ((a == 1) || (b == 1))
either_one a b h k = grind arith

differ_one : (a b : ℕ) → a < 2 → b < 2 → ((a + b) % 2 == 1) ≡ xor (a == 1) (b == 1)
unfolding xor
differ_one zero zero h k = refl
differ_one zero (suc zero) h k = refl
differ_one (suc zero) zero h k = refl
differ_one (suc zero) (suc zero) h k = refl
differ_one (suc (suc a)) b h k = absurd (omega arith)
differ_one zero (suc (suc b)) h k = absurd (omega arith)
differ_one (suc zero) (suc (suc b)) h k = absurd (omega arith)

-- an operator that acts on each bit
each_bit : (w x y z : ℕ) (f : Bool → Bool → Bool) → ((i : ℕ) → i < w → (bit_at z i == 1) ≡ f (bit_at x i == 1) (bit_at y i == 1)) → unnum w z ≡ zip2 f (unnum w x) (unnum w y)
each_bit w x y z f each =
    let p = length-unnum w x in
    let q = length-unnum w y in
    word_is w z (zip2 f (unnum w x) (unnum w y)) (length-zip2 f (unnum w x) (unnum w y) (p ∙ sym q) ∙ p)
    (λ i h. get_or-zip2 f (unnum w x) (unnum w y) i false false false (omega (arith, p)) (omega (arith, q)) ∙
    (ap (λ t. f t (get_or (unnum w y) i false)) (item_is w x i h) ∙ (ap (f (bit_at x i == 1)) (item_is w y i h) ∙ sym (each i h))))

-- `x & y`
pub unnum-and : (w x y : ℕ) → unnum w (bit_and x y) ≡ zip2 (λ a b. a && b) (unnum w x) (unnum w y)
unnum-and w x y = each_bit w x y (bit_and x y) (λ a b. a && b) (λ i h. same_test (bit_at (bit_and x y) i) (min (bit_at x i) (bit_at y i)) (bit_at_and x y i) ∙ both_one (bit_at x i) (bit_at y i) (bit_at-lt x i) (bit_at-lt y i))

-- `x | y`
pub unnum-or_each : (w x y : ℕ) → unnum w (bit_or x y) ≡ zip2 (λ a b. a || b) (unnum w x) (unnum w y)
unnum-or_each w x y = each_bit w x y (bit_or x y) (λ a b. a || b) (λ i h. same_test (bit_at (bit_or x y) i) (max (bit_at x i) (bit_at y i)) (bit_at_or x y i) ∙ either_one (bit_at x i) (bit_at y i) (bit_at-lt x i) (bit_at-lt y i))

-- `x ^ y`
pub unnum-xor : (w x y : ℕ) → unnum w (bit_xor x y) ≡ zip2 xor (unnum w x) (unnum w y)
unnum-xor w x y = each_bit w x y (bit_xor x y) xor (λ i h. same_test (bit_at (bit_xor x y) i) ((bit_at x i + bit_at y i) % 2) (bit_at_xor x y i) ∙ differ_one (bit_at x i) (bit_at y i) (bit_at-lt x i) (bit_at-lt y i))

-- `!x`
pub unnum-not : (w x y : ℕ) → x < 2 ^ w → y ≡ 2 ^ w - 1 - x → unnum w y ≡ map not (unnum w x)
unfolding unnum
unnum-not zero x y h e = refl
unnum-not (suc w) x y h e =
    let p = pow-suc 2 w in
    let first : (y % 2 == 1) ≡ not (x % 2 == 1) = grind arith in
    let rest = unnum-not w (x / 2) (y / 2) (omega (arith, p)) (omega (arith, p)) in
    rw (first, rest) refl

-- the largest words
pub or_fits : (x y : ℕ) → x < 2 ^ 64 → y < 2 ^ 64 → bit_or x y < 2 ^ 64
or_fits x y h k = or_lt 64 x y h k

pub xor_fits : (x y : ℕ) → x < 2 ^ 64 → y < 2 ^ 64 → bit_xor x y < 2 ^ 64
xor_fits x y h k = xor_lt 64 x y h k

-- ---- bytes

-- the bits above the lowest w change nothing
pub unnum-mod : (w x : ℕ) → unnum w (x % 2 ^ w) ≡ unnum w x
unnum-mod w x = unnum-low w x w (omega arith) ∙ sym (unnum-kept w x w refl)

pub unnum-zero : (x : ℕ) → unnum zero x ≡ []
unfolding unnum
unnum-zero x = refl

-- the lower bits and then the higher ones
pub unnum-add : (a b x : ℕ) → unnum (a + b) x ≡ unnum a x ++ unnum b (x / 2 ^ a)
unfolding unnum
unnum-add zero b x = let e : 0 + b ≡ b = omega arith in rw (e, div-one x) refl
unnum-add (suc a) b x =
    let e : suc a + b ≡ suc (a + b) = omega arith in
    let d : x / 2 / 2 ^ a ≡ x / 2 ^ suc a = div-div-eq-div-mul x 2 (2 ^ a) ∙ ap (λ (p : ℕ). x / p) (sym (pow-succ' 2 a)) in
    rw e (ap (λ (t : List Bool). (x % 2 == 1) ∷ t) (unnum-add a b (x / 2) ∙ ap (λ (q : ℕ). unnum a (x / 2) ++ unnum b q) d))

-- the bits of the digits of a number, byte by byte
pub bits-low_digits : (n x : ℕ) → bits (low_digits n x) ≡ unnum (8 * n) x
bits-low_digits zero x = let e : 8 * 0 ≡ 0 = omega arith in rw (low_digits-zero x, bits-nil, e, unnum-zero x) refl
bits-low_digits (suc n) x =
    let e : 8 * suc n ≡ 8 + 8 * n = omega arith in
    rw (low_digits-suc n x, bits-cons (x % 256) (low_digits n (x / 256)), e, unnum-add 8 (8 * n) x)
    (ap (λ (t : List Bool). t ++ bits (low_digits n (x / 256))) (unnum-mod 8 x) ∙ ap (λ (t : List Bool). unnum 8 x ++ t) (bits-low_digits n (x / 256)))

pow_256 : (n : ℕ) → 256 ^ n ≡ 2 ^ (8 * n)
pow_256 zero = refl
pow_256 (suc n) =
    let e : 8 * suc n ≡ 8 * n + 8 = omega arith in
    pow-suc 256 n ∙ (ap (λ (p : ℕ). p * 256) (pow_256 n) ∙ sym (ap (λ (p : ℕ). 2 ^ p) e ∙ pow-add 2 (8 * n) 8))

-- the number that bytes make is that of their bits
pub natural_from-bits : (n : ℕ) (bytes : List ℕ) → length bytes ≡ n → ((k : ℕ) → slice_index bytes k < 256) → natural_from n bytes ≡ num (bits bytes)
natural_from-bits n bytes l h =
    let x : ℕ = natural_from n bytes in
    let small : x < 2 ^ (8 * n) = subst (λ t. x < t) (pow_256 n) (natural_from-lt n bytes l h) in
    let same : low_digits n x ≡ bytes = ap (low_digits n) (natural_from-all n bytes l) ∙ (rw (← l) (low_digits-number bytes h)) in
    sym (num-unnum (8 * n) x small) ∙ ap num (sym (bits-low_digits n x) ∙ ap bits same)

-- `to_le_bytes`
pub low_bytes_bits : (w x : ℕ) (bytes : List ℕ) → bytes ≡ bytes_low_first 0 (w / 8) x → 8 * (w / 8) ≡ w → bits bytes ≡ unnum w x
low_bytes_bits w x bytes e h = ap bits (e ∙ low_bytes (w / 8) x) ∙ (bits-low_digits (w / 8) x ∙ ap (λ (n : ℕ). unnum n x) h)

pub one_byte_bits : (x : ℕ) (bytes : List ℕ) → bytes ≡ x ∷ [] → bits bytes ≡ unnum 8 x
one_byte_bits x bytes e = ap bits e ∙ (bits-cons x [] ∙ (rw bits-nil (append-nil (unnum 8 x))))

-- `from_le_bytes`
pub read_bits : (w x : ℕ) (bytes : List ℕ) → 8 * length bytes ≡ w → x ≡ natural_from (w / 8) bytes → ((k : ℕ) → slice_index bytes k < 256) → unnum w x ≡ bits bytes
read_bits w x bytes l e h =
    let n : length bytes ≡ w / 8 = omega arith in
    let items : length (bits bytes) ≡ w = length-bits bytes ∙ l in
    ap (unnum w) (e ∙ natural_from-bits (w / 8) bytes n h) ∙ (rw (← items) (unnum-num (bits bytes)))

pub ruleset chunks = (unnum-down, unnum-up, unnum-masked, unnum-kept, unnum-and, unnum-or_each, unnum-xor, unnum-not, bit_shifted, or_fits, xor_fits)

pub ruleset chunk_bytes = (low_bytes_bits, one_byte_bits, read_bits)

-- ---- an iterator over the bits of a word

pub word_none : (w x i e : ℕ) → i ≡ e → part (unnum w x) i (e - i) ≡ []
word_none w x i e h = let n : e - i ≡ 0 = omega arith in rw n refl

pub word_first : (w x i e : ℕ) → i < e → e ≤ w → part (unnum w x) i (e - i) ≡ bit x i ∷ part (unnum w x) (i + 1) (e - (i + 1))
word_first w x i e h k =
    let l = length-unnum w x in
    let n : e - i ≡ suc (e - (i + 1)) = omega arith in
    rw n (ap (take (suc (e - (i + 1)))) (drop_more (unnum w x) i false (omega (arith, l))) ∙ ap (λ (b : Bool). b ∷ part (unnum w x) (i + 1) (e - (i + 1))) (get_or-unnum w x i false (omega arith)))

pub length-word_part : (w x i e : ℕ) → i ≤ e → e ≤ w → length (part (unnum w x) i (e - i)) ≡ e - i
length-word_part w x i e h k = let l = length-unnum w x in length-part (unnum w x) i (e - i) (omega (arith, l))

pub ruleset word_cursor = (word_none, word_first, length-word_part)
