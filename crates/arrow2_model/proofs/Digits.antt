-- The bytes that std's conversions give and take are digits.
use Rattle.std.proofs.Common.{◌≡◌, ℕ, zero, suc, ◌+◌, ◌-◌, ◌*◌, ◌/◌, ◌%◌, ◌^◌, ◌<◌, ◌≤◌, List, [], ◌∷◌, ◌++◌, length, take, drop, slice_index, reverse, refl, ap, sym, ◌∙◌, arith, inl, inr, false, ltb, cond, ℤ, pos, negsuc, FitsSigned}
use Rattle.std.specs.Int as width
use Rattle.std.specs.Int.{Width, byte_at, byte_worth, bytes_low_first, bytes_high_first, sum_through, cast_unsigned, cast_signed, from_le_bytes, from_be_bytes, w128}
use Rattle.std.proofs.Math.Seq.{take-append_seam, drop-append_seam}
use Rattle.std.proofs.lemmas.Bool.{cases_lt, le-ltb}
use Rattle.std.proofs.lemmas.Bool.Decides.{nat_tests}
use Rattle.std.proofs.lemmas.Int.{to_z_pos, to_z-of_z}
use Rattle.std.proofs.Math.Nat.{div-div-eq-div-mul, div-one, mod-eq_of_lt, mod-lt, mul-add, mul_assoc, mul_comm, mul_left_comm, one-le-pow, pow-suc, pow-succ'}
use Rattle.std.proofs.lemmas.List.{reverse-append, length-reverse, reverse-reverse, get_or-reverse, get_or_past, get_or-take, get_or-drop, length-append, length-drop, append_assoc, drop-drop, take-append-drop, length-take, take_more, take_all}
use mir.Val.{bits as width_bits, hbits}
use Rattle.arrow2_model.specs.Digits.{residue, low_digits, digits, digits_number, natural_from, signed_residue, integer_from}

-- ---- one digit more

pub low_digits-zero : (x : ℕ) → low_digits zero x ≡ []
unfolding low_digits
low_digits-zero x = refl

pub low_digits-suc : (n x : ℕ) → low_digits (suc n) x ≡ (x % 256) ∷ low_digits n (x / 256)
unfolding low_digits
low_digits-suc n x = refl

pub length-low_digits : (n x : ℕ) → length (low_digits n x) ≡ n
unfolding low_digits
length-low_digits zero x = refl
length-low_digits (suc n) x = ap suc (length-low_digits n (x / 256))

pub length-digits : (n : ℕ) (v : ℤ) → length (digits n v) ≡ n
unfolding digits
length-digits n v = length-low_digits n (residue (256 ^ n) v)

-- a byte of a number, by its index
byte_at_is : (i x : ℕ) → byte_at i x ≡ x / 256 ^ i % 256
byte_at_is zero x = ap (λ (y : ℕ). y % 256) (sym (div-one x))
byte_at_is (suc i) x = refl

pow_pos256 : (n : ℕ) → 0 < 256 ^ n
pow_pos256 n = let h = one-le-pow n 256 (omega arith) in omega arith

byte_worth_is : (i b : ℕ) → byte_worth i b ≡ b * 256 ^ i
byte_worth_is zero b = omega arith
byte_worth_is (suc i) b = refl

div_further : (i x : ℕ) → x / 256 ^ suc i ≡ x / 256 ^ i / 256
div_further i x = ap (λ (p : ℕ). x / p) (pow-suc 256 i) ∙ sym (div-div-eq-div-mul x (256 ^ i) 256)

-- ---- writing

bytes_from : (i n x : ℕ) → bytes_low_first i n x ≡ low_digits n (x / 256 ^ i)
unfolding low_digits
bytes_from i zero x = refl
bytes_from i (suc n) x = rw (byte_at_is i x, bytes_from (suc i) n x, div_further i x) refl

pub low_bytes : (n x : ℕ) → bytes_low_first 0 n x ≡ low_digits n x
low_bytes n x = bytes_from 0 n x ∙ ap (low_digits n) (div-one x)

-- the digits from the other end
low_digits-last : (n x : ℕ) → low_digits (suc n) x ≡ low_digits n x ++ ((x / 256 ^ n % 256) ∷ [])
unfolding low_digits
low_digits-last zero x = rw (div-one x) refl
low_digits-last (suc n) x =
    let e : x / 256 / 256 ^ n ≡ x / 256 ^ suc n = div-div-eq-div-mul x 256 (256 ^ n) ∙ ap (λ (p : ℕ). x / p) (sym (pow-succ' 256 n)) in
    ap (λ (t : List ℕ). (x % 256) ∷ t) (low_digits-last n (x / 256) ∙ ap (λ (d : ℕ). low_digits n (x / 256) ++ ((d % 256) ∷ [])) e)

pub high_bytes : (n x : ℕ) → bytes_high_first n x ≡ reverse (low_digits n x)
high_bytes zero x = rw (low_digits-zero x) refl
high_bytes (suc n) x =
    rw (low_digits-last n x, reverse-append (low_digits n x) ((x / 256 ^ n % 256) ∷ []), high_bytes n x, byte_at_is n x) refl

-- ---- the digits of a value

pub digits-natural : (n x : ℕ) → x < 256 ^ n → digits n (pos x) ≡ low_digits n x
unfolding digits
digits-natural n x h = ap (low_digits n) (mod-eq_of_lt h)

-- ---- reading

pub number-cons : (d : ℕ) (ds : List ℕ) → digits_number (d ∷ ds) ≡ d + 256 * digits_number ds
unfolding digits_number
number-cons d ds = refl

pub number-nil : digits_number [] ≡ 0
unfolding digits_number
number-nil = refl

pub number-low_digits : (n x : ℕ) → x < 256 ^ n → digits_number (low_digits n x) ≡ x
number-low_digits zero x h = rw (low_digits-zero x, number-nil) (omega arith)
number-low_digits (suc n) x h =
    let e = pow-suc 256 n in
    let rest = number-low_digits n (x / 256) (omega (arith, e)) in
    rw (low_digits-suc n x, number-cons (x % 256) (low_digits n (x / 256)), rest) (omega arith)

-- bytes are the digits of their number
pub low_digits-number : (bytes : List ℕ) → ((k : ℕ) → slice_index bytes k < 256) → low_digits (length bytes) (digits_number bytes) ≡ bytes
low_digits-number [] h = low_digits-zero (digits_number [])
low_digits-number (d ∷ ds) h =
    let first : d < 256 = h 0 in
    let low : (d + 256 * digits_number ds) % 256 ≡ d = omega arith in
    let high : (d + 256 * digits_number ds) / 256 ≡ digits_number ds = omega arith in
    rw (number-cons d ds, low_digits-suc (length ds) (d + 256 * digits_number ds), low, high) (ap (λ (t : List ℕ). d ∷ t) (low_digits-number ds (λ k. h (suc k))))

pub digits_number-lt : (bytes : List ℕ) → ((k : ℕ) → slice_index bytes k < 256) → digits_number bytes < 256 ^ length bytes
digits_number-lt [] h = rw number-nil (omega arith)
digits_number-lt (d ∷ ds) h =
    let first : d < 256 = h 0 in
    let rest = digits_number-lt ds (λ k. h (suc k)) in
    let e = pow-suc 256 (length ds) in
    rw (number-cons d ds) (omega arith)

number-last : (ds : List ℕ) (d : ℕ) → digits_number (ds ++ (d ∷ [])) ≡ digits_number ds + d * 256 ^ length ds
number-last [] d = rw (number-cons d [], number-nil) (omega arith)
number-last (x ∷ ds) d =
    let rest = number-last ds d in
    let e = pow-succ' 256 (length ds) in
    let a = number-cons x (ds ++ (d ∷ [])) in
    let b = number-cons x ds in
    let m : d * 256 ^ suc (length ds) ≡ 256 * (d * 256 ^ length ds) = rw e (mul_left_comm d 256 (256 ^ length ds)) in
    rw (a, b, rest, m) (omega arith)

-- the first k + 1 bytes, the lowest first
sum_low : (k : ℕ) (bytes : List ℕ) → k < length bytes → sum_through (λ i. byte_worth i (slice_index bytes i)) k ≡ digits_number (take (k + 1) bytes)
sum_low zero [] h = absurd (omega arith)
sum_low zero (d ∷ ds) h = rw (number-cons d [], number-nil) (omega arith)
sum_low (suc k) bytes h =
    let more = take_more bytes (suc k) 0 h in
    let size : length (take (k + 1) bytes) ≡ suc k = length-take (k + 1) bytes ∙ omega arith in
    let before = sum_low k bytes (omega arith) in
    let same : suc k ≡ k + 1 = omega arith in
    rw (more, same) (rw (number-last (take (k + 1) bytes) (slice_index bytes (k + 1)), before, size, same) refl)

number-one : (d : ℕ) → digits_number (d ∷ []) ≡ d
number-one d = rw (number-cons d [], number-nil) (omega arith)

shared_power : (p number d : ℕ) → p * 256 * number + d * p ≡ p * (d + 256 * number)
shared_power p number d = rw (mul_assoc p 256 number, mul-add p d (256 * number), mul_comm d p) (omega arith)

-- the first m + 1 of k + 1 bytes, the highest first
sum_high : (k m : ℕ) (bytes : List ℕ) → m ≤ k → m < length bytes → sum_through (λ i. byte_worth (k - i) (slice_index bytes i)) m ≡ 256 ^ (k - m) * digits_number (reverse (take (m + 1) bytes))
sum_high k zero [] le h = absurd (omega arith)
sum_high k zero (d ∷ ds) le h = byte_worth_is (k - 0) d ∙ (mul_comm d (256 ^ (k - 0)) ∙ ap (λ (x : ℕ). 256 ^ (k - 0) * x) (sym (number-one d)))
sum_high k (suc m) bytes le h =
    let more = take_more bytes (suc m) 0 h in
    let before = sum_high k m bytes (omega arith) (omega arith) in
    let same : suc m ≡ m + 1 = omega arith in
    let power : 256 ^ (k - m) ≡ 256 ^ (k - suc m) * 256 = ap (λ (x : ℕ). 256 ^ x) (omega arith) ∙ pow-suc 256 (k - suc m) in
    let front : List ℕ = take (m + 1) bytes in
    let b : ℕ = slice_index bytes (suc m) in
    let turned : reverse (take (suc m + 1) bytes) ≡ b ∷ reverse front = ap reverse (more ∙ ap (λ (x : ℕ). take x bytes ++ b ∷ []) same) ∙ reverse-append front (b ∷ []) in
    rw (before, turned, number-cons b (reverse front), power, byte_worth_is (k - suc m) b) (shared_power (256 ^ (k - suc m)) (digits_number (reverse front)) b)

-- `from_le_bytes`
pub number_low : (k : ℕ) (bytes : List ℕ) → length bytes ≡ k + 1 → sum_through (λ i. byte_worth i (slice_index bytes i)) k ≡ digits_number bytes
number_low k bytes e = sum_low k bytes (omega arith) ∙ ap digits_number (take_all (k + 1) bytes (omega arith))

-- `from_be_bytes`
pub number_high : (k : ℕ) (bytes : List ℕ) → length bytes ≡ k + 1 → sum_through (λ i. byte_worth (k - i) (slice_index bytes i)) k ≡ digits_number (reverse bytes)
number_high k bytes e =
    let one : k - k ≡ 0 = omega arith in
    sum_high k k bytes (omega arith) (omega arith) ∙ (rw (one, take_all (k + 1) bytes (omega arith)) (omega arith))

-- ---- in the form of the code

-- `to_le_bytes` of an unsigned number
pub wrote_low : (n x : ℕ) (bytes : List ℕ) → bytes ≡ bytes_low_first 0 n x → x < 256 ^ n → bytes ≡ digits n (pos x)
wrote_low n x bytes e h = e ∙ (low_bytes n x ∙ sym (digits-natural n x h))

-- `to_be_bytes` of an unsigned number
pub wrote_high : (n x : ℕ) (bytes : List ℕ) → bytes ≡ bytes_high_first n x → x < 256 ^ n → bytes ≡ reverse (digits n (pos x))
wrote_high n x bytes e h = e ∙ (high_bytes n x ∙ ap reverse (sym (digits-natural n x h)))

pub natural_from-all : (n : ℕ) (bytes : List ℕ) → length bytes ≡ n → natural_from n bytes ≡ digits_number bytes
unfolding natural_from
natural_from-all n bytes e = ap digits_number (take_all n bytes (omega arith))

-- digits make the number again
pub natural_from-low_digits : (n x : ℕ) → x < 256 ^ n → natural_from n (low_digits n x) ≡ x
natural_from-low_digits n x h = natural_from-all n (low_digits n x) (length-low_digits n x) ∙ number-low_digits n x h

-- written digits are read back
pub low_read_back : (n x : ℕ) (bytes : List ℕ) → bytes ≡ bytes_low_first 0 n x → x < 256 ^ n → natural_from n bytes ≡ x
low_read_back n x bytes e h = ap (natural_from n) (e ∙ low_bytes n x) ∙ natural_from-low_digits n x h

pub high_read_back : (n x : ℕ) (bytes : List ℕ) → bytes ≡ bytes_high_first n x → x < 256 ^ n → natural_from n (reverse bytes) ≡ x
high_read_back n x bytes e h = ap (natural_from n) (ap reverse (e ∙ high_bytes n x) ∙ reverse-reverse (low_digits n x)) ∙ natural_from-low_digits n x h

-- `from_le_bytes`
pub read_low : (n x : ℕ) (bytes : List ℕ) → length bytes ≡ n → 0 < n → x ≡ sum_through (λ i. byte_worth i (slice_index bytes i)) (n - 1) → x ≡ natural_from n bytes
read_low n x bytes l h e = e ∙ (number_low (n - 1) bytes (omega arith) ∙ sym (natural_from-all n bytes l))

-- `from_be_bytes`
pub read_high : (n x : ℕ) (bytes : List ℕ) → length bytes ≡ n → 0 < n → x ≡ sum_through (λ i. byte_worth (n - 1 - i) (slice_index bytes i)) (n - 1) → x ≡ natural_from n (reverse bytes)
read_high n x bytes l h e = e ∙ (number_high (n - 1) bytes (omega arith) ∙ sym (natural_from-all n (reverse bytes) (length-reverse bytes ∙ l)))

-- bytes are the digits of the number that is read from them
pub digits_of_read : (n : ℕ) (bytes : List ℕ) → length bytes ≡ n → ((k : ℕ) → slice_index bytes k < 256) → digits n (pos (natural_from n bytes)) ≡ bytes
digits_of_read n bytes l h =
    let small : digits_number bytes < 256 ^ n = rw (← l) (digits_number-lt bytes h) in
    rw (natural_from-all n bytes l) (digits-natural n (digits_number bytes) small ∙ (rw (← l) (low_digits-number bytes h)))

pub slice_index-reverse-lt : (bytes : List ℕ) → ((k : ℕ) → slice_index bytes k < 256) → (k : ℕ) → slice_index (reverse bytes) k < 256
slice_index-reverse-lt bytes h k = elim (cases_lt k (length bytes)) [
  | inl inside ↦ rw (get_or-reverse bytes k 0 inside) (h (length bytes - 1 - k))
  | inr outside ↦ rw (get_or_past (reverse bytes) k 0 (omega (arith, length-reverse bytes))) (omega arith)
]

pub digits_of_read_high : (n : ℕ) (bytes : List ℕ) → length bytes ≡ n → ((k : ℕ) → slice_index bytes k < 256) → reverse (digits n (pos (natural_from n (reverse bytes)))) ≡ bytes
digits_of_read_high n bytes l h =
    ap reverse (digits_of_read n (reverse bytes) (length-reverse bytes ∙ l) (slice_index-reverse-lt bytes h)) ∙ reverse-reverse bytes

pub ruleset unsigned_bytes = (wrote_low, wrote_high, low_read_back, high_read_back, read_low, read_high)

-- ---- signed numbers

-- the widths at which std has signed numbers, and the number of bytes of each
abbrev pub IsSize : Width → ℕ → Type 0
IsSize w n = (256 ^ n ≡ 2 ^ width_bits w) × (2 * 2 ^ hbits w ≡ 2 ^ width_bits w)

centred_low : (m x : ℕ) → 2 * x < m → signed_residue m x ≡ pos x
centred_low m x h = grind (arith, nat_tests)

centred_high : (m x : ℕ) → m ≤ 2 * x → signed_residue m x ≡ negsuc (m - suc x)
centred_high m x h = grind (arith, nat_tests)

pub residue-centred : (m x : ℕ) → x < m → residue m (signed_residue m x) ≡ x
residue-centred m x h = elim (cases_lt (2 * x) m) [
  | inl low ↦ ap (residue m) (centred_low m x low) ∙ mod-eq_of_lt h
  | inr high ↦
      let small : (m - suc x) % m ≡ m - suc x = mod-eq_of_lt (omega arith) in
      ap (residue m) (centred_high m x high) ∙ (rw small (omega arith))
]

-- std's bits of a signed number
pub of_z_is : (w : Width) (n : ℕ) (z : ℤ) → IsSize w n → FitsSigned w z → cast_unsigned w z ≡ residue (256 ^ n) z
of_z_is w n (pos x) s f =
    let a = s.0 in let b = s.1 in let t = f.sfits in
    sym (mod-eq_of_lt (omega arith))
of_z_is w n (negsuc x) s f =
    let a = s.0 in let b = s.1 in let t = f.sfits in
    let small : x % 256 ^ n ≡ x = mod-eq_of_lt (omega arith) in
    rw small (omega arith)

-- std's signed number of bits
pub to_z_is : (w : Width) (n x : ℕ) → IsSize w n → cast_signed w x ≡ signed_residue (256 ^ n) x
to_z_is w n x s = let a = s.0 in let b = s.1 in elim (cases_lt x (2 ^ hbits w)) [
  | inl low ↦ to_z_pos w x low ∙ sym (centred_low (256 ^ n) x (omega arith))
  | inr high ↦
      let same : 2 ^ width_bits w - suc x ≡ 256 ^ n - suc x = omega arith in
      let test : ltb x (2 ^ hbits w) ≡ false = le-ltb x (2 ^ hbits w) high in
      ap (λ b. cond b (pos x) (negsuc (2 ^ width_bits w - suc x))) test ∙ (ap negsuc same ∙ sym (centred_high (256 ^ n) x (omega arith)))
]

pub natural_from-lt : (n : ℕ) (bytes : List ℕ) → length bytes ≡ n → ((k : ℕ) → slice_index bytes k < 256) → natural_from n bytes < 256 ^ n
natural_from-lt n bytes l h = rw (natural_from-all n bytes l, ← l) (digits_number-lt bytes h)

pub digits_of_integer : (n : ℕ) (bytes : List ℕ) → length bytes ≡ n → ((k : ℕ) → slice_index bytes k < 256) → digits n (integer_from n bytes) ≡ bytes
unfolding digits integer_from
digits_of_integer n bytes l h =
    let small = natural_from-lt n bytes l h in
    ap (low_digits n) (residue-centred (256 ^ n) (natural_from n bytes) small ∙ sym (mod-eq_of_lt small)) ∙ digits_of_read n bytes l h

pub digits_of_integer_high : (n : ℕ) (bytes : List ℕ) → length bytes ≡ n → ((k : ℕ) → slice_index bytes k < 256) → reverse (digits n (integer_from n (reverse bytes))) ≡ bytes
digits_of_integer_high n bytes l h =
    ap reverse (digits_of_integer n (reverse bytes) (length-reverse bytes ∙ l) (slice_index-reverse-lt bytes h)) ∙ reverse-reverse bytes

pub integer_low : (w : Width) (n : ℕ) (z : ℤ) (bytes : List ℕ) → IsSize w n → FitsSigned w z → bytes ≡ bytes_low_first 0 n (cast_unsigned w z) → bytes ≡ digits n z
unfolding digits
integer_low w n z bytes s f e = e ∙ (low_bytes n (cast_unsigned w z) ∙ ap (low_digits n) (of_z_is w n z s f))

pub integer_high : (w : Width) (n : ℕ) (z : ℤ) (bytes : List ℕ) → IsSize w n → FitsSigned w z → bytes ≡ bytes_high_first n (cast_unsigned w z) → bytes ≡ reverse (digits n z)
unfolding digits
integer_high w n z bytes s f e = e ∙ (high_bytes n (cast_unsigned w z) ∙ ap reverse (ap (low_digits n) (of_z_is w n z s f)))

pub residue-lt : (m : ℕ) (v : ℤ) → 0 < m → residue m v < m
residue-lt m (pos x) h = mod-lt x h
residue-lt m (negsuc x) h = omega arith

-- a signed number of n bytes is the one that lies in the middle
pub centred-residue : (w : Width) (n : ℕ) (z : ℤ) → IsSize w n → FitsSigned w z → signed_residue (256 ^ n) (residue (256 ^ n) z) ≡ z
centred-residue w n z s f = sym (to_z_is w n (residue (256 ^ n) z) s) ∙ (ap (cast_signed w) (sym (of_z_is w n z s f)) ∙ to_z-of_z w z f)

-- a number of n bytes is that of its digits
pub integer_from-digits : (w : Width) (n : ℕ) (z : ℤ) → IsSize w n → FitsSigned w z → integer_from n (digits n z) ≡ z
unfolding digits integer_from
integer_from-digits w n z s f =
    let a = s.0 in
    let small : residue (256 ^ n) z < 256 ^ n = residue-lt (256 ^ n) z (pow_pos256 n) in
    ap (signed_residue (256 ^ n)) (natural_from-low_digits n (residue (256 ^ n) z) small)
    ∙ (sym (to_z_is w n (residue (256 ^ n) z) s) ∙ (ap (cast_signed w) (sym (of_z_is w n z s f)) ∙ to_z-of_z w z f))

pub integer_low_back : (w : Width) (n : ℕ) (z : ℤ) (bytes : List ℕ) → IsSize w n → FitsSigned w z → bytes ≡ bytes_low_first 0 n (cast_unsigned w z) → integer_from n bytes ≡ z
integer_low_back w n z bytes s f e = ap (integer_from n) (integer_low w n z bytes s f e) ∙ integer_from-digits w n z s f

pub integer_high_back : (w : Width) (n : ℕ) (z : ℤ) (bytes : List ℕ) → IsSize w n → FitsSigned w z → bytes ≡ bytes_high_first n (cast_unsigned w z) → integer_from n (reverse bytes) ≡ z
integer_high_back w n z bytes s f e =
    ap (integer_from n) (ap reverse (integer_high w n z bytes s f e) ∙ reverse-reverse (digits n z)) ∙ integer_from-digits w n z s f

pub integer_read : (w : Width) (n x : ℕ) (z : ℤ) (bytes : List ℕ) → IsSize w n → x ≡ natural_from n bytes → z ≡ cast_signed w x → z ≡ integer_from n bytes
unfolding integer_from
integer_read w n x z bytes s e r = r ∙ (to_z_is w n x s ∙ ap (signed_residue (256 ^ n)) e)

-- ---- signed numbers at each width

pub i16_low : (z : ℤ) (bytes : List ℕ) → FitsSigned width.w16 z → bytes ≡ bytes_low_first 0 2 (cast_unsigned width.w16 z) → bytes ≡ digits 2 z
i16_low z bytes f e = integer_low width.w16 2 z bytes (refl, refl) f e

pub i16_high : (z : ℤ) (bytes : List ℕ) → FitsSigned width.w16 z → bytes ≡ bytes_high_first 2 (cast_unsigned width.w16 z) → bytes ≡ reverse (digits 2 z)
i16_high z bytes f e = integer_high width.w16 2 z bytes (refl, refl) f e

pub i16_low_back : (z : ℤ) (bytes : List ℕ) → FitsSigned width.w16 z → bytes ≡ bytes_low_first 0 2 (cast_unsigned width.w16 z) → integer_from 2 bytes ≡ z
i16_low_back z bytes f e = integer_low_back width.w16 2 z bytes (refl, refl) f e

pub i16_high_back : (z : ℤ) (bytes : List ℕ) → FitsSigned width.w16 z → bytes ≡ bytes_high_first 2 (cast_unsigned width.w16 z) → integer_from 2 (reverse bytes) ≡ z
i16_high_back z bytes f e = integer_high_back width.w16 2 z bytes (refl, refl) f e

pub i16_read_low : (z : ℤ) (bytes : List ℕ) → length bytes ≡ 2 → z ≡ cast_signed width.w16 (from_le_bytes width.w16 bytes) → z ≡ integer_from 2 bytes
i16_read_low z bytes l e = integer_read width.w16 2 (from_le_bytes width.w16 bytes) z bytes (refl, refl) (read_low 2 (from_le_bytes width.w16 bytes) bytes l (omega arith) refl) e

pub i16_read_high : (z : ℤ) (bytes : List ℕ) → length bytes ≡ 2 → z ≡ cast_signed width.w16 (from_be_bytes width.w16 bytes) → z ≡ integer_from 2 (reverse bytes)
i16_read_high z bytes l e = integer_read width.w16 2 (from_be_bytes width.w16 bytes) z (reverse bytes) (refl, refl) (read_high 2 (from_be_bytes width.w16 bytes) bytes l (omega arith) refl) e

pub ruleset i16_bytes = (i16_low, i16_high, i16_low_back, i16_high_back, i16_read_low, i16_read_high)

pub i32_low : (z : ℤ) (bytes : List ℕ) → FitsSigned width.w32 z → bytes ≡ bytes_low_first 0 4 (cast_unsigned width.w32 z) → bytes ≡ digits 4 z
i32_low z bytes f e = integer_low width.w32 4 z bytes (refl, refl) f e

pub i32_high : (z : ℤ) (bytes : List ℕ) → FitsSigned width.w32 z → bytes ≡ bytes_high_first 4 (cast_unsigned width.w32 z) → bytes ≡ reverse (digits 4 z)
i32_high z bytes f e = integer_high width.w32 4 z bytes (refl, refl) f e

pub i32_low_back : (z : ℤ) (bytes : List ℕ) → FitsSigned width.w32 z → bytes ≡ bytes_low_first 0 4 (cast_unsigned width.w32 z) → integer_from 4 bytes ≡ z
i32_low_back z bytes f e = integer_low_back width.w32 4 z bytes (refl, refl) f e

pub i32_high_back : (z : ℤ) (bytes : List ℕ) → FitsSigned width.w32 z → bytes ≡ bytes_high_first 4 (cast_unsigned width.w32 z) → integer_from 4 (reverse bytes) ≡ z
i32_high_back z bytes f e = integer_high_back width.w32 4 z bytes (refl, refl) f e

pub i32_read_low : (z : ℤ) (bytes : List ℕ) → length bytes ≡ 4 → z ≡ cast_signed width.w32 (from_le_bytes width.w32 bytes) → z ≡ integer_from 4 bytes
i32_read_low z bytes l e = integer_read width.w32 4 (from_le_bytes width.w32 bytes) z bytes (refl, refl) (read_low 4 (from_le_bytes width.w32 bytes) bytes l (omega arith) refl) e

pub i32_read_high : (z : ℤ) (bytes : List ℕ) → length bytes ≡ 4 → z ≡ cast_signed width.w32 (from_be_bytes width.w32 bytes) → z ≡ integer_from 4 (reverse bytes)
i32_read_high z bytes l e = integer_read width.w32 4 (from_be_bytes width.w32 bytes) z (reverse bytes) (refl, refl) (read_high 4 (from_be_bytes width.w32 bytes) bytes l (omega arith) refl) e

pub ruleset i32_bytes = (i32_low, i32_high, i32_low_back, i32_high_back, i32_read_low, i32_read_high)

pub i64_low : (z : ℤ) (bytes : List ℕ) → FitsSigned width.w64 z → bytes ≡ bytes_low_first 0 8 (cast_unsigned width.w64 z) → bytes ≡ digits 8 z
i64_low z bytes f e = integer_low width.w64 8 z bytes (refl, refl) f e

pub i64_high : (z : ℤ) (bytes : List ℕ) → FitsSigned width.w64 z → bytes ≡ bytes_high_first 8 (cast_unsigned width.w64 z) → bytes ≡ reverse (digits 8 z)
i64_high z bytes f e = integer_high width.w64 8 z bytes (refl, refl) f e

pub i64_low_back : (z : ℤ) (bytes : List ℕ) → FitsSigned width.w64 z → bytes ≡ bytes_low_first 0 8 (cast_unsigned width.w64 z) → integer_from 8 bytes ≡ z
i64_low_back z bytes f e = integer_low_back width.w64 8 z bytes (refl, refl) f e

pub i64_high_back : (z : ℤ) (bytes : List ℕ) → FitsSigned width.w64 z → bytes ≡ bytes_high_first 8 (cast_unsigned width.w64 z) → integer_from 8 (reverse bytes) ≡ z
i64_high_back z bytes f e = integer_high_back width.w64 8 z bytes (refl, refl) f e

pub i64_read_low : (z : ℤ) (bytes : List ℕ) → length bytes ≡ 8 → z ≡ cast_signed width.w64 (from_le_bytes width.w64 bytes) → z ≡ integer_from 8 bytes
i64_read_low z bytes l e = integer_read width.w64 8 (from_le_bytes width.w64 bytes) z bytes (refl, refl) (read_low 8 (from_le_bytes width.w64 bytes) bytes l (omega arith) refl) e

pub i64_read_high : (z : ℤ) (bytes : List ℕ) → length bytes ≡ 8 → z ≡ cast_signed width.w64 (from_be_bytes width.w64 bytes) → z ≡ integer_from 8 (reverse bytes)
i64_read_high z bytes l e = integer_read width.w64 8 (from_be_bytes width.w64 bytes) z (reverse bytes) (refl, refl) (read_high 8 (from_be_bytes width.w64 bytes) bytes l (omega arith) refl) e

pub ruleset i64_bytes = (i64_low, i64_high, i64_low_back, i64_high_back, i64_read_low, i64_read_high)

pub i128_low : (z : ℤ) (bytes : List ℕ) → FitsSigned w128 z → bytes ≡ bytes_low_first 0 16 (cast_unsigned w128 z) → bytes ≡ digits 16 z
i128_low z bytes f e = integer_low w128 16 z bytes (refl, refl) f e

pub i128_high : (z : ℤ) (bytes : List ℕ) → FitsSigned w128 z → bytes ≡ bytes_high_first 16 (cast_unsigned w128 z) → bytes ≡ reverse (digits 16 z)
i128_high z bytes f e = integer_high w128 16 z bytes (refl, refl) f e

pub i128_low_back : (z : ℤ) (bytes : List ℕ) → FitsSigned w128 z → bytes ≡ bytes_low_first 0 16 (cast_unsigned w128 z) → integer_from 16 bytes ≡ z
i128_low_back z bytes f e = integer_low_back w128 16 z bytes (refl, refl) f e

pub i128_high_back : (z : ℤ) (bytes : List ℕ) → FitsSigned w128 z → bytes ≡ bytes_high_first 16 (cast_unsigned w128 z) → integer_from 16 (reverse bytes) ≡ z
i128_high_back z bytes f e = integer_high_back w128 16 z bytes (refl, refl) f e

pub i128_read_low : (z : ℤ) (bytes : List ℕ) → length bytes ≡ 16 → z ≡ cast_signed w128 (from_le_bytes w128 bytes) → z ≡ integer_from 16 bytes
i128_read_low z bytes l e = integer_read w128 16 (from_le_bytes w128 bytes) z bytes (refl, refl) (read_low 16 (from_le_bytes w128 bytes) bytes l (omega arith) refl) e

pub i128_read_high : (z : ℤ) (bytes : List ℕ) → length bytes ≡ 16 → z ≡ cast_signed w128 (from_be_bytes w128 bytes) → z ≡ integer_from 16 (reverse bytes)
i128_read_high z bytes l e = integer_read w128 16 (from_be_bytes w128 bytes) z (reverse bytes) (refl, refl) (read_high 16 (from_be_bytes w128 bytes) bytes l (omega arith) refl) e

pub ruleset i128_bytes = (i128_low, i128_high, i128_low_back, i128_high_back, i128_read_low, i128_read_high)

-- ---- one byte

byte_digits : (x : ℕ) → x < 256 → x ∷ [] ≡ low_digits 1 x
unfolding low_digits
byte_digits x h = ap (λ (d : ℕ). d ∷ []) (sym (mod-eq_of_lt h))

pub u8_low : (x : ℕ) (bytes : List ℕ) → x < 2 ^ 8 → bytes ≡ x ∷ [] → bytes ≡ digits 1 (pos x)
u8_low x bytes h e = e ∙ (byte_digits x h ∙ sym (digits-natural 1 x h))

pub u8_high : (x : ℕ) (bytes : List ℕ) → x < 2 ^ 8 → bytes ≡ x ∷ [] → bytes ≡ reverse (digits 1 (pos x))
u8_high x bytes h e = e ∙ ap reverse (byte_digits x h ∙ sym (digits-natural 1 x h))

one_byte : (b : ℕ) → natural_from 1 (b ∷ []) ≡ b
unfolding natural_from
one_byte b = number-one b

pub u8_low_back : (x : ℕ) (bytes : List ℕ) → bytes ≡ x ∷ [] → natural_from 1 bytes ≡ x
u8_low_back x bytes e = ap (natural_from 1) e ∙ one_byte x

pub u8_high_back : (x : ℕ) (bytes : List ℕ) → bytes ≡ x ∷ [] → natural_from 1 (reverse bytes) ≡ x
u8_high_back x bytes e = ap (natural_from 1) (ap reverse e) ∙ one_byte x

-- a list of one byte
only_byte : (bytes : List ℕ) → length bytes ≡ 1 → bytes ≡ slice_index bytes 0 ∷ []
only_byte [] e = absurd (omega arith)
only_byte (b ∷ []) e = refl
only_byte (b ∷ c ∷ bytes) e = absurd (omega arith)

pub u8_read_low : (x : ℕ) (bytes : List ℕ) → length bytes ≡ 1 → x ≡ slice_index bytes 0 → x ≡ natural_from 1 bytes
u8_read_low x bytes l e = e ∙ sym (ap (natural_from 1) (only_byte bytes l) ∙ one_byte (slice_index bytes 0))

pub u8_read_high : (x : ℕ) (bytes : List ℕ) → length bytes ≡ 1 → x ≡ slice_index bytes 0 → x ≡ natural_from 1 (reverse bytes)
u8_read_high x bytes l e = e ∙ sym (ap (natural_from 1) (ap reverse (only_byte bytes l)) ∙ one_byte (slice_index bytes 0))

pub ruleset u8_bytes = (u8_low, u8_high, u8_low_back, u8_high_back, u8_read_low, u8_read_high)

i8_size : IsSize width.w8 1
i8_size = (refl, refl)

i8_byte : (z : ℤ) → FitsSigned width.w8 z → cast_unsigned width.w8 z ∷ [] ≡ digits 1 z
unfolding digits
i8_byte z f =
    let small : residue 256 z < 256 = residue-lt 256 z (omega arith) in
    let e : cast_unsigned width.w8 z ≡ residue 256 z = of_z_is width.w8 1 z i8_size f in
    rw e (byte_digits (residue 256 z) small)

pub i8_low : (z : ℤ) (bytes : List ℕ) → FitsSigned width.w8 z → bytes ≡ cast_unsigned width.w8 z ∷ [] → bytes ≡ digits 1 z
i8_low z bytes f e = e ∙ i8_byte z f

pub i8_high : (z : ℤ) (bytes : List ℕ) → FitsSigned width.w8 z → bytes ≡ cast_unsigned width.w8 z ∷ [] → bytes ≡ reverse (digits 1 z)
i8_high z bytes f e = e ∙ ap reverse (i8_byte z f)

pub i8_low_back : (z : ℤ) (bytes : List ℕ) → FitsSigned width.w8 z → bytes ≡ cast_unsigned width.w8 z ∷ [] → integer_from 1 bytes ≡ z
i8_low_back z bytes f e = ap (integer_from 1) (i8_low z bytes f e) ∙ integer_from-digits width.w8 1 z i8_size f

pub i8_high_back : (z : ℤ) (bytes : List ℕ) → FitsSigned width.w8 z → bytes ≡ cast_unsigned width.w8 z ∷ [] → integer_from 1 (reverse bytes) ≡ z
i8_high_back z bytes f e = ap (integer_from 1) (ap reverse (i8_high z bytes f e) ∙ reverse-reverse (digits 1 z)) ∙ integer_from-digits width.w8 1 z i8_size f

pub i8_read_low : (z : ℤ) (bytes : List ℕ) → length bytes ≡ 1 → z ≡ cast_signed width.w8 (slice_index bytes 0) → z ≡ integer_from 1 bytes
i8_read_low z bytes l e = integer_read width.w8 1 (slice_index bytes 0) z bytes i8_size (u8_read_low (slice_index bytes 0) bytes l refl) e

pub i8_read_high : (z : ℤ) (bytes : List ℕ) → length bytes ≡ 1 → z ≡ cast_signed width.w8 (slice_index bytes 0) → z ≡ integer_from 1 (reverse bytes)
i8_read_high z bytes l e = integer_read width.w8 1 (slice_index bytes 0) z (reverse bytes) i8_size (u8_read_high (slice_index bytes 0) bytes l refl) e

pub ruleset i8_bytes = (i8_low, i8_high, i8_low_back, i8_high_back, i8_read_low, i8_read_high)

-- ---- values that are joined of parts

pub slice_index-take-lt : (n : ℕ) (bytes : List ℕ) → ((k : ℕ) → slice_index bytes k < 256) → (k : ℕ) → slice_index (take n bytes) k < 256
slice_index-take-lt n bytes h k = elim (cases_lt k n) [
  | inl inside ↦ rw (get_or-take n bytes k 0 inside) (h k)
  | inr past ↦ rw (get_or_past (take n bytes) k 0 (omega (arith, length-take n bytes))) (omega arith)
]

pub slice_index-drop-lt : (n : ℕ) (bytes : List ℕ) → ((k : ℕ) → slice_index bytes k < 256) → (k : ℕ) → slice_index (drop n bytes) k < 256
slice_index-drop-lt n bytes h k = rw (get_or-drop n bytes k 0) (h (n + k))

-- n bytes from byte a on are the digits of the number that is read there
pub digits_of_part : (n a : ℕ) (bytes : List ℕ) → a + n ≤ length bytes → ((k : ℕ) → slice_index bytes k < 256) → digits n (integer_from n (take n (drop a bytes))) ≡ take n (drop a bytes)
digits_of_part n a bytes l h =
    let size : length (take n (drop a bytes)) ≡ n = length-take n (drop a bytes) ∙ omega (arith, length-drop a bytes) in
    digits_of_integer n (take n (drop a bytes)) size (slice_index-take-lt n (drop a bytes) (slice_index-drop-lt a bytes h))

pub digits_of_part_high : (n a : ℕ) (bytes : List ℕ) → a + n ≤ length bytes → ((k : ℕ) → slice_index bytes k < 256) → reverse (digits n (integer_from n (reverse (take n (drop a bytes))))) ≡ take n (drop a bytes)
digits_of_part_high n a bytes l h =
    let size : length (take n (drop a bytes)) ≡ n = length-take n (drop a bytes) ∙ omega (arith, length-drop a bytes) in
    digits_of_integer_high n (take n (drop a bytes)) size (slice_index-take-lt n (drop a bytes) (slice_index-drop-lt a bytes h))

pub take_first : (n : ℕ) (xs ys : List ℕ) → length xs ≡ n → take n (xs ++ ys) ≡ xs
take_first n xs ys e = rw (← e) (take-append_seam xs ys)

pub drop_first : (n : ℕ) (xs ys : List ℕ) → length xs ≡ n → drop n (xs ++ ys) ≡ ys
drop_first n xs ys e = rw (← e) (drop-append_seam xs ys)

-- the numbers of the parts of joined bytes
pub first_back : (n : ℕ) (z : ℤ) (bytes xs ys : List ℕ) → bytes ≡ xs ++ ys → length xs ≡ n → integer_from n xs ≡ z → integer_from n (take n bytes) ≡ z
first_back n z bytes xs ys e l r = ap (λ (t : List ℕ). integer_from n (take n t)) e ∙ (ap (integer_from n) (take_first n xs ys l) ∙ r)

pub second_back : (n m : ℕ) (z : ℤ) (bytes xs ys : List ℕ) → bytes ≡ xs ++ ys → length xs ≡ n → length ys ≡ m → integer_from m ys ≡ z → integer_from m (take m (drop n bytes)) ≡ z
second_back n m z bytes xs ys e l k r =
    ap (λ (t : List ℕ). integer_from m (take m (drop n t))) e ∙ (ap (λ (t : List ℕ). integer_from m (take m t)) (drop_first n xs ys l) ∙ (ap (integer_from m) (take_all m ys (omega arith)) ∙ r))

pub first_back_high : (n : ℕ) (z : ℤ) (bytes xs ys : List ℕ) → bytes ≡ xs ++ ys → length xs ≡ n → integer_from n (reverse xs) ≡ z → integer_from n (reverse (take n bytes)) ≡ z
first_back_high n z bytes xs ys e l r = ap (λ (t : List ℕ). integer_from n (reverse (take n t))) e ∙ (ap (λ (t : List ℕ). integer_from n (reverse t)) (take_first n xs ys l) ∙ r)

pub second_back_high : (n m : ℕ) (z : ℤ) (bytes xs ys : List ℕ) → bytes ≡ xs ++ ys → length xs ≡ n → length ys ≡ m → integer_from m (reverse ys) ≡ z → integer_from m (reverse (take m (drop n bytes))) ≡ z
second_back_high n m z bytes xs ys e l k r =
    ap (λ (t : List ℕ). integer_from m (reverse (take m (drop n t)))) e ∙ (ap (λ (t : List ℕ). integer_from m (reverse (take m t))) (drop_first n xs ys l) ∙ (ap (λ (t : List ℕ). integer_from m (reverse t)) (take_all m ys (omega arith)) ∙ r))

-- a list of two parts
pub two_parts : (n m : ℕ) (bytes : List ℕ) → length bytes ≡ n + m → take n bytes ++ take m (drop n bytes) ≡ bytes
two_parts n m bytes l = ap (λ (t : List ℕ). take n bytes ++ t) (take_all m (drop n bytes) (omega (arith, length-drop n bytes))) ∙ take-append-drop n bytes

-- bytes are the digits of two numbers, of 4 bytes each
pub digits_of_pair : (bytes : List ℕ) → length bytes ≡ 8 → ((k : ℕ) → slice_index bytes k < 256) → digits 4 (integer_from 4 (take 4 bytes)) ++ digits 4 (integer_from 4 (take 4 (drop 4 bytes))) ≡ bytes
digits_of_pair bytes l h = rw (digits_of_part 4 0 bytes (omega arith) h, digits_of_part 4 4 bytes (omega arith) h) (two_parts 4 4 bytes l)

pub digits_of_pair_high : (bytes : List ℕ) → length bytes ≡ 8 → ((k : ℕ) → slice_index bytes k < 256) → reverse (digits 4 (integer_from 4 (reverse (take 4 bytes)))) ++ reverse (digits 4 (integer_from 4 (reverse (take 4 (drop 4 bytes))))) ≡ bytes
digits_of_pair_high bytes l h = rw (digits_of_part_high 4 0 bytes (omega arith) h, digits_of_part_high 4 4 bytes (omega arith) h) (two_parts 4 4 bytes l)

pub ruleset joined = (first_back, second_back, first_back_high, second_back_high)

-- ---- three parts

pub third_back : (n m p : ℕ) (z : ℤ) (bytes xs rest ys zs : List ℕ) → bytes ≡ xs ++ rest → rest ≡ ys ++ zs → length xs ≡ n → length ys ≡ m → length zs ≡ p → integer_from p zs ≡ z → integer_from p (take p (drop (n + m) bytes)) ≡ z
third_back n m p z bytes xs rest ys zs e k l h q r =
    let whole : bytes ≡ (xs ++ ys) ++ zs = e ∙ (ap (λ (t : List ℕ). xs ++ t) k ∙ sym (append_assoc xs ys zs)) in
    second_back (n + m) p z bytes (xs ++ ys) zs whole (omega (arith, length-append xs ys)) q r

pub third_back_high : (n m p : ℕ) (z : ℤ) (bytes xs rest ys zs : List ℕ) → bytes ≡ xs ++ rest → rest ≡ ys ++ zs → length xs ≡ n → length ys ≡ m → length zs ≡ p → integer_from p (reverse zs) ≡ z → integer_from p (reverse (take p (drop (n + m) bytes))) ≡ z
third_back_high n m p z bytes xs rest ys zs e k l h q r =
    let whole : bytes ≡ (xs ++ ys) ++ zs = e ∙ (ap (λ (t : List ℕ). xs ++ t) k ∙ sym (append_assoc xs ys zs)) in
    second_back_high (n + m) p z bytes (xs ++ ys) zs whole (omega (arith, length-append xs ys)) q r

-- the second of three
pub middle_back : (n m : ℕ) (z : ℤ) (bytes xs rest ys zs : List ℕ) → bytes ≡ xs ++ rest → rest ≡ ys ++ zs → length xs ≡ n → length ys ≡ m → integer_from m ys ≡ z → integer_from m (take m (drop n bytes)) ≡ z
middle_back n m z bytes xs rest ys zs e k l h r =
    ap (λ (t : List ℕ). integer_from m (take m (drop n t))) (e ∙ ap (λ (t : List ℕ). xs ++ t) k)
    ∙ (ap (λ (t : List ℕ). integer_from m (take m t)) (drop_first n xs (ys ++ zs) l) ∙ (ap (integer_from m) (take_first m ys zs h) ∙ r))

pub middle_back_high : (n m : ℕ) (z : ℤ) (bytes xs rest ys zs : List ℕ) → bytes ≡ xs ++ rest → rest ≡ ys ++ zs → length xs ≡ n → length ys ≡ m → integer_from m (reverse ys) ≡ z → integer_from m (reverse (take m (drop n bytes))) ≡ z
middle_back_high n m z bytes xs rest ys zs e k l h r =
    ap (λ (t : List ℕ). integer_from m (reverse (take m (drop n t)))) (e ∙ ap (λ (t : List ℕ). xs ++ t) k)
    ∙ (ap (λ (t : List ℕ). integer_from m (reverse (take m t))) (drop_first n xs (ys ++ zs) l) ∙ (ap (λ (t : List ℕ). integer_from m (reverse t)) (take_first m ys zs h) ∙ r))

three_parts : (bytes : List ℕ) → length bytes ≡ 16 → take 4 bytes ++ (take 4 (drop 4 bytes) ++ take 8 (drop 8 bytes)) ≡ bytes
three_parts bytes l =
    let tail : length (drop 4 bytes) ≡ 12 = length-drop 4 bytes ∙ omega arith in
    let deep : take 8 (drop 4 (drop 4 bytes)) ≡ take 8 (drop 8 bytes) = ap (take 8) (drop-drop 4 4 bytes) in
    let back : take 4 (drop 4 bytes) ++ take 8 (drop 8 bytes) ≡ drop 4 bytes = ap (λ (t : List ℕ). take 4 (drop 4 bytes) ++ t) (sym deep) ∙ two_parts 4 8 (drop 4 bytes) tail in
    ap (λ (t : List ℕ). take 4 bytes ++ t) back ∙ take-append-drop 4 bytes

-- bytes are the digits of three numbers, of 4, 4 and 8 bytes
pub digits_of_triple : (bytes : List ℕ) → length bytes ≡ 16 → ((k : ℕ) → slice_index bytes k < 256) → digits 4 (integer_from 4 (take 4 bytes)) ++ (digits 4 (integer_from 4 (take 4 (drop 4 bytes))) ++ digits 8 (integer_from 8 (take 8 (drop 8 bytes)))) ≡ bytes
digits_of_triple bytes l h = rw (digits_of_part 4 0 bytes (omega arith) h, digits_of_part 4 4 bytes (omega arith) h, digits_of_part 8 8 bytes (omega arith) h) (three_parts bytes l)

pub digits_of_triple_high : (bytes : List ℕ) → length bytes ≡ 16 → ((k : ℕ) → slice_index bytes k < 256) → reverse (digits 4 (integer_from 4 (reverse (take 4 bytes)))) ++ (reverse (digits 4 (integer_from 4 (reverse (take 4 (drop 4 bytes))))) ++ reverse (digits 8 (integer_from 8 (reverse (take 8 (drop 8 bytes)))))) ≡ bytes
digits_of_triple_high bytes l h = rw (digits_of_part_high 4 0 bytes (omega arith) h, digits_of_part_high 4 4 bytes (omega arith) h, digits_of_part_high 8 8 bytes (omega arith) h) (three_parts bytes l)
