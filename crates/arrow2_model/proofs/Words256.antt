-- Numbers of 256 bits in two words.
use Rattle.std.proofs.Common.{◌≡◌, ℕ, zero, suc, ◌+◌, ◌-◌, ◌*◌, ◌/◌, ◌%◌, ◌^◌, ◌<◌, List, ◌∷◌, ◌++◌, length, take, drop, slice_index, reverse, refl, ap, sym, ◌∙◌, arith, ℤ, pos, negsuc, ◌+ℤ◌, ◌-ℤ◌, ◌*ℤ◌, neg_ℤ, ◌≢◌, ◌==◌, FitsSigned}
use Rattle.std.specs.Int.{cast_unsigned, cast_signed, w128, int_wrapping_neg}
use Rattle.std.proofs.lemmas.Int.{ints, to_z-of_z}
use Rattle.arrow2_model.specs.Digits.{residue, signed_residue, words_value, high_word, low_word, digits, low_digits, integer_from, natural_from, digits_number}
use Rattle.arrow2_model.proofs.Digits.{residue-lt, residue-centred, centred-residue, slice_index-take-lt, slice_index-drop-lt, of_z_is, to_z_is, length-digits, slice_index-reverse-lt, digits_of_integer, integer_from-digits, take_first, drop_first}
use Rattle.std.proofs.Math.Nat.{div-div-eq-div-mul, div-one, mod-eq_of_lt, mul_left_comm, pow-succ'}
use Rattle.std.proofs.lemmas.Bool.Decides.{nat_tests, same_from_decides, Decides-like, Decides-eqb, Decides-int_eq}
use Rattle.std.proofs.lemmas.List.{take-take, take-append-drop, length-reverse, reverse-reverse, length-take, length-drop, take_all}
use Rattle.std.specs.declared.cmp.Ordering.{Ordering}
use Rattle.std.specs.Ordering.{int_cmp, nat_cmp, ordering_then, int_eq}

value_high : (a : ℕ) (lo : ℤ) → words_value (pos a) lo ≡ pos (a * 2 ^ 128 + residue (2 ^ 128) lo)
unfolding words_value
value_high a lo = refl

value_low : (a : ℕ) (lo : ℤ) → residue (2 ^ 128) lo < 2 ^ 128 → words_value (negsuc a) lo ≡ negsuc (a * 2 ^ 128 + (2 ^ 128 - 1 - residue (2 ^ 128) lo))
unfolding words_value
value_low a lo h = omega (arith, ints)

low_lt : (lo : ℤ) → residue (2 ^ 128) lo < 2 ^ 128
low_lt lo = residue-lt (2 ^ 128) lo (omega arith)

pub high_word-words : (hi lo : ℤ) → high_word (words_value hi lo) ≡ hi
unfolding high_word
high_word-words (pos a) lo =
    let h = low_lt lo in
    let e : (a * 2 ^ 128 + residue (2 ^ 128) lo) / 2 ^ 128 ≡ a = omega arith in
    rw (value_high a lo) (ap pos e)
high_word-words (negsuc a) lo =
    let h = low_lt lo in
    let e : (a * 2 ^ 128 + (2 ^ 128 - 1 - residue (2 ^ 128) lo)) / 2 ^ 128 ≡ a = omega arith in
    rw (value_low a lo h) (ap negsuc e)

pub residue-words : (hi lo : ℤ) → residue (2 ^ 128) (words_value hi lo) ≡ residue (2 ^ 128) lo
residue-words (pos a) lo =
    let h = low_lt lo in
    rw (value_high a lo) (omega arith)
residue-words (negsuc a) lo =
    let h = low_lt lo in
    rw (value_low a lo h) (omega arith)

pub low_word-words : (hi lo : ℤ) → FitsSigned w128 lo → low_word (words_value hi lo) ≡ lo
unfolding low_word
low_word-words hi lo f = ap (signed_residue (2 ^ 128)) (residue-words hi lo) ∙ centred-residue w128 16 lo (refl, refl) f

pub words-value : (v : ℤ) → words_value (high_word v) (low_word v) ≡ v
unfolding high_word low_word words_value
words-value (pos x) =
    let e : residue (2 ^ 128) (signed_residue (2 ^ 128) (x % 2 ^ 128)) ≡ x % 2 ^ 128 = residue-centred (2 ^ 128) (x % 2 ^ 128) (omega arith) in
    rw e (omega (arith, ints))
words-value (negsuc x) =
    let r : ℕ = 2 ^ 128 - 1 - x % 2 ^ 128 in
    let e : residue (2 ^ 128) (signed_residue (2 ^ 128) r) ≡ r = residue-centred (2 ^ 128) r (omega arith) in
    rw e (omega (arith, ints))

-- ---- negation

pub neg-words_zero : (hi : ℤ) → words_value (neg_ℤ hi) (pos 0) ≡ neg_ℤ (words_value hi (pos 0))
unfolding words_value
neg-words_zero hi = omega (arith, ints)

pub neg-words : (hi lo n : ℤ) → residue (2 ^ 128) n + residue (2 ^ 128) lo ≡ 2 ^ 128 → words_value (neg_ℤ (hi +ℤ pos 1)) n ≡ neg_ℤ (words_value hi lo)
unfolding words_value
neg-words hi lo n e = omega (arith, ints)

-- ---- order

compare_words : (a c : ℤ) (r s : ℕ) → r < 2 ^ 128 → s < 2 ^ 128 → int_cmp (a *ℤ pos (2 ^ 128) +ℤ pos r) (c *ℤ pos (2 ^ 128) +ℤ pos s) ≡ ordering_then (int_cmp a c) (nat_cmp r s)
compare_words a c r s h k = grind (arith, ints, nat_tests)

-- the high words are compared first, and then the low words as unsigned numbers
pub order-words : (a b c d : ℤ) → FitsSigned w128 b → FitsSigned w128 d → int_cmp (words_value a b) (words_value c d) ≡ ordering_then (int_cmp a c) (nat_cmp (cast_unsigned w128 b) (cast_unsigned w128 d))
unfolding words_value
order-words a b c d f g =
    rw (of_z_is w128 16 b (refl, refl) f, of_z_is w128 16 d (refl, refl) g) (compare_words a c (residue (2 ^ 128) b) (residue (2 ^ 128) d) (low_lt b) (low_lt d))

-- ---- bytes

low_digits-add : (a b x : ℕ) → low_digits (a + b) x ≡ low_digits a x ++ low_digits b (x / 256 ^ a)
unfolding low_digits
low_digits-add zero b x = let e : 0 + b ≡ b = omega arith in rw (e, div-one x) refl
low_digits-add (suc a) b x =
    let e : suc a + b ≡ suc (a + b) = omega arith in
    let d : x / 256 / 256 ^ a ≡ x / 256 ^ suc a = div-div-eq-div-mul x 256 (256 ^ a) ∙ ap (λ (p : ℕ). x / p) (sym (pow-succ' 256 a)) in
    rw e (ap (λ (t : List ℕ). (x % 256) ∷ t) (low_digits-add a b (x / 256) ∙ ap (λ (q : ℕ). low_digits a (x / 256) ++ low_digits b q) d))

-- digits above the lowest n change none of these
low_digits-below : (n q r : ℕ) → low_digits n (q * 256 ^ n + r) ≡ low_digits n r
unfolding low_digits
low_digits-below zero q r = refl
low_digits-below (suc n) q r =
    let t : ℕ = q * 256 ^ n in
    let e : q * 256 ^ suc n ≡ 256 * t = ap (λ (p : ℕ). q * p) (pow-succ' 256 n) ∙ mul_left_comm q 256 (256 ^ n) in
    let low : (q * 256 ^ suc n + r) % 256 ≡ r % 256 = omega (arith, e) in
    let high : (q * 256 ^ suc n + r) / 256 ≡ t + r / 256 = omega (arith, e) in
    rw (low, high) (ap (λ (ds : List ℕ). (r % 256) ∷ ds) (low_digits-below n q (r / 256)))

residue-both : (hi lo : ℤ) → residue (256 ^ 32) (words_value hi lo) ≡ residue (2 ^ 128) hi * 2 ^ 128 + residue (2 ^ 128) lo
residue-both (pos a) lo =
    let h = low_lt lo in
    rw (value_high a lo) (omega arith)
residue-both (negsuc a) lo =
    let h = low_lt lo in
    rw (value_low a lo h) (omega arith)

pub digits-words : (hi lo : ℤ) → digits 32 (words_value hi lo) ≡ digits 16 lo ++ digits 16 hi
unfolding digits
digits-words hi lo =
    let a : ℕ = residue (2 ^ 128) hi in
    let r : ℕ = residue (2 ^ 128) lo in
    let h = low_lt lo in
    let above : (a * 2 ^ 128 + r) / 2 ^ 128 ≡ a = omega arith in
    ap (low_digits 32) (residue-both hi lo) ∙ (low_digits-add 16 16 (a * 2 ^ 128 + r)
    ∙ (rw (low_digits-below 16 a r) (ap (λ (x : ℕ). low_digits 16 r ++ low_digits 16 x) above)))

pub first_half : (bytes : List ℕ) → integer_from 16 bytes ≡ integer_from 16 (take 16 bytes)
unfolding integer_from natural_from
first_half bytes = ap (λ (ds : List ℕ). signed_residue (256 ^ 16) (digits_number ds)) (sym (take-take 16 16 bytes (omega arith)))

-- bytes are the digits of the number that is read from them
pub digits_of_words : (bytes : List ℕ) → length bytes ≡ 32 → ((k : ℕ) → slice_index bytes k < 256) → digits 32 (words_value (integer_from 16 (drop 16 bytes)) (integer_from 16 bytes)) ≡ bytes
digits_of_words bytes l h =
    let front : length (take 16 bytes) ≡ 16 = length-take 16 bytes ∙ (rw l refl) in
    let back : length (drop 16 bytes) ≡ 16 = length-drop 16 bytes ∙ omega arith in
    let low : digits 16 (integer_from 16 bytes) ≡ take 16 bytes = ap (digits 16) (first_half bytes) ∙ digits_of_integer 16 (take 16 bytes) front (slice_index-take-lt 16 bytes h) in
    let high : digits 16 (integer_from 16 (drop 16 bytes)) ≡ drop 16 bytes = digits_of_integer 16 (drop 16 bytes) back (slice_index-drop-lt 16 bytes h) in
    digits-words (integer_from 16 (drop 16 bytes)) (integer_from 16 bytes) ∙ (rw (low, high) (take-append-drop 16 bytes))

pub digits_of_words_high : (bytes : List ℕ) → length bytes ≡ 32 → ((k : ℕ) → slice_index bytes k < 256) → reverse (digits 32 (words_value (integer_from 16 (drop 16 (reverse bytes))) (integer_from 16 (reverse bytes)))) ≡ bytes
digits_of_words_high bytes l h =
    ap reverse (digits_of_words (reverse bytes) (length-reverse bytes ∙ l) (slice_index-reverse-lt bytes h)) ∙ reverse-reverse bytes

-- written digits are read back
pub words_read_back : (hi lo : ℤ) (bytes : List ℕ) → FitsSigned w128 hi → FitsSigned w128 lo → bytes ≡ digits 32 (words_value hi lo) → words_value (integer_from 16 (drop 16 bytes)) (integer_from 16 bytes) ≡ words_value hi lo
words_read_back hi lo bytes f g e =
    let whole : bytes ≡ digits 16 lo ++ digits 16 hi = e ∙ digits-words hi lo in
    let n : length (digits 16 lo) ≡ 16 = length-digits 16 lo in
    let front : take 16 bytes ≡ digits 16 lo = ap (take 16) whole ∙ take_first 16 (digits 16 lo) (digits 16 hi) n in
    let back : drop 16 bytes ≡ digits 16 hi = ap (drop 16) whole ∙ drop_first 16 (digits 16 lo) (digits 16 hi) n in
    let low : integer_from 16 bytes ≡ lo = first_half bytes ∙ (ap (integer_from 16) front ∙ integer_from-digits w128 16 lo (refl, refl) g) in
    let high : integer_from 16 (drop 16 bytes) ≡ hi = ap (integer_from 16) back ∙ integer_from-digits w128 16 hi (refl, refl) f in
    rw (low, high) refl

-- ---- negation in the form of the code

-- a word whose bits are those of 0
zero_word : (lo : ℤ) → FitsSigned w128 lo → cast_unsigned w128 lo ≡ 0 → lo ≡ pos 0
zero_word lo f e = sym (to_z-of_z w128 lo f) ∙ ap (cast_signed w128) e

-- the negation of the high word overflows only in the least number
pub high_negates : (hi lo v : ℤ) → lo ≡ pos 0 → v ≡ words_value hi lo → v ≢ neg_ℤ (pos (2 ^ 255)) → hi ≢ neg_ℤ (pos (2 ^ 127))
unfolding words_value
high_negates hi lo v z w least e = least (w ∙ (rw (e, z) refl))

above_zero : (n : ℕ) → (n ≡ 0 → ⊥) → 0 < n
above_zero zero h = absurd (h refl)
above_zero (suc n) h = omega arith

-- any other low word
pub negated_both : (hi lo h l v : ℤ) → FitsSigned w128 lo → lo ≢ pos 0 → h ≡ negsuc 0 -ℤ hi → l ≡ int_wrapping_neg w128 lo → v ≡ words_value hi lo → words_value h l ≡ neg_ℤ v
negated_both hi lo h l v f z e m w =
    let n : ℕ = residue (2 ^ 128) lo in
    let small = low_lt lo in
    let middle : signed_residue (2 ^ 128) n ≡ lo = centred-residue w128 16 lo (refl, refl) f in
    let above : 0 < n = above_zero n (λ t. z (sym middle ∙ ap (signed_residue (2 ^ 128)) t)) in
    let bits : cast_unsigned w128 lo ≡ n = of_z_is w128 16 lo (refl, refl) f in
    let rest : (2 ^ 128 - cast_unsigned w128 lo) % 2 ^ 128 ≡ 2 ^ 128 - n = rw bits (mod-eq_of_lt (omega arith)) in
    let back : residue (2 ^ 128) l ≡ 2 ^ 128 - n =
    ap (residue (2 ^ 128)) (m ∙ (ap (cast_signed w128) rest ∙ to_z_is w128 16 (2 ^ 128 - n) (refl, refl)))
    ∙ residue-centred (2 ^ 128) (2 ^ 128 - n) (omega arith) in
    let high : h ≡ neg_ℤ (hi +ℤ pos 1) = omega (arith, ints) in
    rw (w, high) (neg-words hi lo l (omega arith))

-- the low word is 0
pub negated_high : (hi lo v : ℤ) → FitsSigned w128 lo → cast_unsigned w128 lo ≡ 0 → words_value hi lo ≡ v → words_value (pos 0 -ℤ hi) (pos 0) ≡ neg_ℤ v
negated_high hi lo v f e w =
    let opposite : pos 0 -ℤ hi ≡ neg_ℤ hi = omega (arith, ints) in
    rw (← w, zero_word lo f e, opposite) (neg-words_zero hi)

pub negated_fits : (hi lo v : ℤ) → FitsSigned w128 hi → FitsSigned w128 lo → cast_unsigned w128 lo ≡ 0 → words_value hi lo ≡ v → v ≢ neg_ℤ (pos (2 ^ 255)) → FitsSigned w128 (pos 0 -ℤ hi)
negated_fits hi lo v f g e w least =
    let other = high_negates hi lo v (zero_word lo g e) (sym w) least in
    omega (arith, ints)

-- the value of the words of an order's two sides
pub ordered : (a b c d v w : ℤ) (x y : ℕ) (p q r : Ordering) → FitsSigned w128 b → FitsSigned w128 d → words_value a b ≡ v → words_value c d ≡ w
    → x ≡ cast_unsigned w128 b → y ≡ cast_unsigned w128 d → p ≡ int_cmp a c → q ≡ nat_cmp x y → r ≡ ordering_then p q → r ≡ int_cmp v w
ordered a b c d v w x y p q r f g e k m n s t u = rw (← e, ← k, order-words a b c d f g, u, t, s, m, n) refl

-- the high words are the same
pub equal_low : (a b c d v w : ℤ) → FitsSigned w128 a → FitsSigned w128 b → FitsSigned w128 c → FitsSigned w128 d → cast_unsigned w128 a ≡ cast_unsigned w128 c → words_value a b ≡ v → words_value c d ≡ w
    → (cast_unsigned w128 b == cast_unsigned w128 d) ≡ int_eq v w
equal_low a b c d v w fa fb fc fd e k m =
    let same : a ≡ c = sym (to_z-of_z w128 a fa) ∙ (ap (cast_signed w128) e ∙ to_z-of_z w128 c fc) in
    let low : (cast_unsigned w128 b ≡ cast_unsigned w128 d) → b ≡ d = λ t. sym (to_z-of_z w128 b fb) ∙ (ap (cast_signed w128) t ∙ to_z-of_z w128 d fd) in
    rw (← k, ← m) (same_from_decides (cast_unsigned w128 b == cast_unsigned w128 d) (int_eq (words_value a b) (words_value c d))
    (Decides-like (cast_unsigned w128 b == cast_unsigned w128 d)
    (λ t. ap (λ h. words_value h b) same ∙ ap (words_value c) (low t))
    (λ t. ap (cast_unsigned w128) (sym (low_word-words a b fb) ∙ (ap low_word t ∙ low_word-words c d fd)))
    (Decides-eqb (cast_unsigned w128 b) (cast_unsigned w128 d)))
    (Decides-int_eq (words_value a b) (words_value c d)))

-- the bytes of the two words
pub joined_digits : (hi lo v : ℤ) (low high bytes : List ℕ) → words_value hi lo ≡ v → low ≡ digits 16 lo → high ≡ digits 16 hi → bytes ≡ low ++ high → bytes ≡ digits 32 v
joined_digits hi lo v low high bytes e l h b = rw (← e, digits-words hi lo, b, l, h) refl

-- the number of the two halves of the bytes
pub read_words : (bytes : List ℕ) (high low r : ℤ) → length bytes ≡ 32 → FitsSigned w128 high → FitsSigned w128 low → low ≡ integer_from 16 (take 16 bytes) → high ≡ integer_from 16 (take (length bytes - 16) (drop 16 bytes))
    → r ≡ words_value (cast_signed w128 (cast_unsigned w128 high)) (cast_signed w128 (cast_unsigned w128 low)) → r ≡ words_value (integer_from 16 (drop 16 bytes)) (integer_from 16 bytes)
read_words bytes high low r l f g e k w =
    let back : take (length bytes - 16) (drop 16 bytes) ≡ drop 16 bytes = take_all (length bytes - 16) (drop 16 bytes) (omega (arith, length-drop 16 bytes)) in
    w ∙ (ap (λ (h : ℤ). words_value h (cast_signed w128 (cast_unsigned w128 low))) (to_z-of_z w128 high f ∙ (k ∙ ap (integer_from 16) back))
    ∙ ap (words_value (integer_from 16 (drop 16 bytes))) (to_z-of_z w128 low g ∙ (e ∙ sym (first_half bytes))))

-- the words of a negated number, as the code has them
pub negated_then : (hi lo v : ℤ) → FitsSigned w128 hi → FitsSigned w128 lo → cast_unsigned w128 lo ≡ 0 → words_value hi lo ≡ v → v ≢ neg_ℤ (pos (2 ^ 255))
    → words_value (cast_signed w128 (cast_unsigned w128 (pos 0 -ℤ cast_signed w128 (cast_unsigned w128 hi)))) (pos 0) ≡ neg_ℤ v
negated_then hi lo v f g e w least =
    ap (λ (h : ℤ). words_value (cast_signed w128 (cast_unsigned w128 (pos 0 -ℤ h))) (pos 0)) (to_z-of_z w128 hi f)
    ∙ (ap (λ (h : ℤ). words_value h (pos 0)) (to_z-of_z w128 (pos 0 -ℤ hi) (negated_fits hi lo v f g e w least)) ∙ negated_high hi lo v g e w)

pub negated_else : (hi lo l v : ℤ) → FitsSigned w128 hi → FitsSigned w128 lo → FitsSigned w128 l → (cast_unsigned w128 lo ≡ 0 → ⊥) → l ≡ int_wrapping_neg w128 (cast_signed w128 (cast_unsigned w128 lo)) → words_value hi lo ≡ v
    → words_value (cast_signed w128 (cast_unsigned w128 (negsuc 0 -ℤ cast_signed w128 (cast_unsigned w128 hi)))) (cast_signed w128 (cast_unsigned w128 l)) ≡ neg_ℤ v
negated_else hi lo l v f g k z m w =
    let high : FitsSigned w128 (negsuc 0 -ℤ hi) = omega (arith, ints) in
    ap (λ (h : ℤ). words_value (cast_signed w128 (cast_unsigned w128 (negsuc 0 -ℤ h))) (cast_signed w128 (cast_unsigned w128 l))) (to_z-of_z w128 hi f)
    ∙ (ap (λ (h : ℤ). words_value h (cast_signed w128 (cast_unsigned w128 l))) (to_z-of_z w128 (negsuc 0 -ℤ hi) high)
    ∙ (ap (words_value (negsuc 0 -ℤ hi)) (to_z-of_z w128 l k)
    ∙ negated_both hi lo (negsuc 0 -ℤ hi) l v g (λ t. z (ap (cast_unsigned w128) t)) refl (m ∙ ap (int_wrapping_neg w128) (to_z-of_z w128 lo g)) (sym w)))

pub negation_fits : (hi lo v : ℤ) → FitsSigned w128 hi → FitsSigned w128 lo → cast_unsigned w128 lo ≡ 0 → words_value hi lo ≡ v → v ≢ neg_ℤ (pos (2 ^ 255))
    → FitsSigned w128 (pos 0 -ℤ cast_signed w128 (cast_unsigned w128 hi))
negation_fits hi lo v f g e w least = rw (to_z-of_z w128 hi f) (negated_fits hi lo v f g e w least)

-- the high words differ
pub unequal_high : (a b c d v w : ℤ) → (cast_unsigned w128 a ≡ cast_unsigned w128 c → ⊥) → words_value a b ≡ v → words_value c d ≡ w
    → (cast_unsigned w128 a == cast_unsigned w128 c) ≡ int_eq v w
unequal_high a b c d v w other k m =
    rw (← k, ← m) (same_from_decides (cast_unsigned w128 a == cast_unsigned w128 c) (int_eq (words_value a b) (words_value c d))
    (Decides-like (cast_unsigned w128 a == cast_unsigned w128 c)
    (λ t. absurd (other t))
    (λ t. ap (cast_unsigned w128) (sym (high_word-words a b) ∙ (ap high_word t ∙ high_word-words c d)))
    (Decides-eqb (cast_unsigned w128 a) (cast_unsigned w128 c)))
    (Decides-int_eq (words_value a b) (words_value c d)))

pub ruleset words256 = (high_word-words, low_word-words, words-value)
