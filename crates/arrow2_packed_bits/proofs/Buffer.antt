-- The bytes of packed bits.
use Rattle.std.proofs.Common.{◌≡◌, ◌≢◌, ◌∙◌, ℕ, zero, suc, ◌+◌, ◌-◌, ◌*◌, ◌/◌, ◌%◌, ◌^◌, ◌<◌, ◌≤◌, List, [], ◌∷◌, ◌++◌, Bool, true, false, take, replicate, length, get_or, set, refl, subst, sym, ap, inl, inr, arith, pos, bit_and, bit_or, max, ◌==◌}
use Rattle.std.proofs.lemmas.Bool.{cases_lt, cases_eq}
use Rattle.std.specs.Int.{from_bool, bit_at}
use Rattle.std.proofs.lemmas.List.FromFn.{get_or-map-range_with_len}
use Rattle.std.proofs.lemmas.Nat.Bits.{bit_at_or, bit_at_ones, bit_at_cat_low, bit_at_cat_high, bit_at-zero, bit_at-lt}
use Rattle.std.proofs.Math.Nat.{mod-le}
use Rattle.std.proofs.lemmas.List.{length-take, length-take-le, length-set, length-replicate, take_more, get_or-take, get_or-set_same, get_or-set_other, get_or-replicate, get_or_append_left, get_or-append_right, get_or_past, take-set-le}
use Rattle.std.proofs.Math.Seq.{take-set-lt}
use Rattle.std.proofs.lemmas.Grind.{get_or_default_zero}
use Rattle.std.proofs.lemmas.Nat.{or_of_8, and_mask, pow_pos}
use Rattle.arrow2_model.specs.Lists.{bit, bits, unnum, IsCanonical}
use Rattle.arrow2_model.specs.Digits.{low_digits, digits}
use Rattle.arrow2_model.proofs.Bits.{bit_is, length-bits, bits-set}
use Rattle.arrow2_model.proofs.Canonical.{canonical-nil, pushed_byte, pushed_bit, cut_whole, cut_within}
use Rattle.arrow2_model.proofs.Digits.{low_digits-zero, low_digits-suc, digits-natural}

-- the number of items is the length
pub length_items : (bytes : List ℕ) (n : ℕ) → IsCanonical bytes n → length (take n (bits bytes)) ≡ n
length_items bytes n canonical = let l = length-bits bytes in length-take-le n (bits bytes) (omega (arith, l, canonical.exact))

-- ---- bytes

-- each item is a byte
abbrev pub AreBytes : List ℕ → Type 0
AreBytes bytes = (k : ℕ) → get_or bytes k 0 < 256

pub append_fits : (xs ys : List ℕ) → AreBytes xs → AreBytes ys → AreBytes (xs ++ ys)
append_fits xs ys f g k = elim (cases_lt k (length xs)) [
  | inl lt ↦ rw (get_or_append_left xs ys 0 k lt) (f k)
  | inr ge ↦ rw (get_or-append_right xs ys (length xs) k 0 refl ge) (g (k - length xs))
]

pub take_fits : (n : ℕ) (xs : List ℕ) → AreBytes xs → AreBytes (take n xs)
take_fits n xs f k = elim (cases_lt k n) [
  | inl lt ↦ rw (get_or-take n xs k 0 lt) (f k)
  | inr ge ↦ let l = length-take n xs in rw (get_or_past (take n xs) k 0 (omega (arith, l, ge))) (omega arith)
]

pub set_fits : (xs : List ℕ) (i b : ℕ) → AreBytes xs → b < 256 → AreBytes (set xs i b)
set_fits xs i b f h k = elim (cases_eq k i) [
  | inr ne ↦ rw (get_or-set_other xs i k b 0 ne) (f k)
  | inl e ↦ elim (cases_lt i (length xs)) [
    | inl lt ↦ rw (e, get_or-set_same xs i b 0 lt) h
    | inr ge ↦ let l = length-set xs i b in rw (get_or_past (set xs i b) k 0 (omega (arith, l, e, ge))) (omega arith)
  ]
]

pub copies_fit : (n b : ℕ) → b < 256 → AreBytes (replicate n b)
copies_fit n b h k = elim (cases_lt k n) [
  | inl lt ↦ rw (get_or-replicate n k b 0 lt) h
  | inr ge ↦ let l = length-replicate n b in rw (get_or_past (replicate n b) k 0 (omega (arith, l, ge))) (omega arith)
]

low_digits_fit : (n x : ℕ) → AreBytes (low_digits n x)
low_digits_fit zero x k = rw (low_digits-zero x) (omega arith)
low_digits_fit (suc n) x zero = rw (low_digits-suc n x) (omega arith)
low_digits_fit (suc n) x (suc k) = rw (low_digits-suc n x) (low_digits_fit n (x / 256) k)

-- the bytes of a word
pub word_fits : (word : List ℕ) (x : ℕ) → word ≡ digits 8 (pos x) → x < 2 ^ 64 → AreBytes word
word_fits word x is h = rw (is, digits-natural 8 x (omega (arith, h))) (low_digits_fit 8 x)

-- ---- bits at the end

-- which bits of a byte are below bit i
abbrev pub below : List ℕ
below = 0 ∷ 1 ∷ 3 ∷ 7 ∷ 15 ∷ 31 ∷ 63 ∷ 127 ∷ []

below_at : (i : ℕ) → i < 8 → get_or below i 0 ≡ 2 ^ i - 1
below_at i h = get_or-map-range_with_len (λ i. 2 ^ i - 1) 0 8 i i 0 h (omega arith)

-- and which are not
abbrev pub above : List ℕ
above = 255 ∷ 254 ∷ 252 ∷ 248 ∷ 240 ∷ 224 ∷ 192 ∷ 128 ∷ []

above_at : (i : ℕ) → i < 8 → get_or above i 0 ≡ (2 ^ (8 - i) - 1) * 2 ^ i + 0
above_at i h = get_or-map-range_with_len (λ i. (2 ^ (8 - i) - 1) * 2 ^ i + 0) 0 8 i i 0 h (omega arith)

above_bit : (x p i : ℕ) → p < 8 → bit (bit_or x (get_or above p 0)) i ≡ (max (bit_at x i) (bit_at ((2 ^ (8 - p) - 1) * 2 ^ p + 0) i) == 1)
above_bit x p i h = ap (λ a. bit (bit_or x a) i) (above_at p h) ∙ (bit_is (bit_or x ((2 ^ (8 - p) - 1) * 2 ^ p + 0)) i ∙ ap (λ b. b == 1) (bit_at_or x ((2 ^ (8 - p) - 1) * 2 ^ p + 0) i))

-- the bits of a byte whose bits from bit p on were set
pub above_kept : (x p i : ℕ) → p < 8 → i < p → bit (bit_or x (get_or above p 0)) i ≡ bit x i
above_kept x p i h below =
    let none : bit_at ((2 ^ (8 - p) - 1) * 2 ^ p + 0) i ≡ 0 = bit_at_cat_low (2 ^ (8 - p) - 1) p 0 i below ∙ bit_at-zero i in
    above_bit x p i h ∙ (ap (λ b. b == 1) (rw none (omega arith)) ∙ sym (bit_is x i))

pub above_set : (x p i : ℕ) → p ≤ i → i < 8 → bit (bit_or x (get_or above p 0)) i ≡ true
above_set x p i from h =
    let one : bit_at ((2 ^ (8 - p) - 1) * 2 ^ p + 0) i ≡ 1 = bit_at_cat_high (2 ^ (8 - p) - 1) p 0 i (pow_pos p) from ∙ bit_at_ones (8 - p) (i - p) (omega (arith, from, h)) in
    let low = bit_at-lt x i in
    let all : max (bit_at x i) (bit_at ((2 ^ (8 - p) - 1) * 2 ^ p + 0) i) ≡ 1 = rw one (omega (arith, low)) in
    above_bit x p i (omega arith) ∙ ap (λ b. b == 1) all

-- bytes that lose their last item: its bit is cleared, and its byte goes if it was alone there
pub cut_last : (bytes after : List ℕ) (n last x : ℕ) → IsCanonical bytes n → n ≡ last + 1 → x ≡ get_or bytes (last / 8) x → after ≡ take ((last + 7) / 8) (set bytes (last / 8) (bit_and x (get_or below (last % 8) 0))) → IsCanonical after last × (take last (bits after) ≡ take last (bits bytes))
cut_last bytes after n last x canonical e is was =
    let k : ℕ = last / 8 in
    let m : ℕ = (last + 7) / 8 in
    let p : ℕ = last % 8 in
    let byte : x ≡ get_or bytes k 0 = is ∙ get_or_default_zero bytes k x (omega (arith, canonical.exact, e)) in
    let mask : bit_and x (get_or below p 0) ≡ x % 2 ^ p = ap (bit_and x) (below_at p (omega arith)) ∙ and_mask x p in
    let small : x < 256 = rw byte (canonical.fits k) in
    let now : after ≡ take m (set bytes k (x % 2 ^ p)) = was ∙ ap (λ y. take m (set bytes k y)) mask in
    let fits : AreBytes after = rw now (take_fits m (set bytes k (x % 2 ^ p)) (set_fits bytes k (x % 2 ^ p) canonical.fits (mod_small x (2 ^ p) small))) in
    elim (cases_lt 0 p) [
      | inl some ↦
          let inside : k < m = omega arith in
          let moved : after ≡ set (take m bytes) k (x % 2 ^ p) = now ∙ take-set-lt m bytes k (x % 2 ^ p) inside in
          let front : get_or (take m bytes) k 0 ≡ x = get_or-take m bytes k 0 inside ∙ sym byte in
          rw moved (cut_within bytes last (x % 2 ^ p) (omega (arith, canonical.exact, e)) some (ap (λ y. y % 2 ^ p) (sym front)) (subst AreBytes moved fits))
      | inr none ↦
          let past : m ≤ k = omega (arith, none) in
          let moved : after ≡ take m bytes = now ∙ take-set-le m bytes k (x % 2 ^ p) past in
          rw moved (cut_whole bytes last (omega (arith, canonical.exact, e)) (omega (arith, none)) (subst AreBytes moved fits))
    ]
  where
    mod_small : (x m : ℕ) → x < 256 → x % m < 256
    mod_small x m h = let le = mod-le x m in omega (arith, le, h)

-- an item in the last byte
pub push_position : (bytes after : List ℕ) (n m x y : ℕ) (v : Bool) → IsCanonical bytes n → 0 < n % 8 → m ≡ length bytes → x ≡ get_or bytes (m - 1) x → y ≡ from_bool v → after ≡ set bytes (m - 1) (bit_or x (y * 2 ^ (n % 8) % 256)) → IsCanonical after (n + 1) × (take (n + 1) (bits after) ≡ take n (bits bytes) ++ v ∷ [])
push_position bytes after n m x y v canonical some size is value was =
    let last : m - 1 ≡ n / 8 = omega (arith, some, size, canonical.exact) in
    let byte : x ≡ get_or bytes (n / 8) 0 = is ∙ (ap (λ i. get_or bytes i x) last ∙ get_or_default_zero bytes (n / 8) x (omega (arith, canonical.exact))) in
    rw (was, last) (pushed_bit bytes n (bit_or x (y * 2 ^ (n % 8) % 2 ^ 8)) v canonical some (ap (λ z. bit_or z (y * 2 ^ (n % 8) % 2 ^ 8)) byte ∙ ap (λ z. bit_or (get_or bytes (n / 8) 0) (z * 2 ^ (n % 8) % 2 ^ 8)) value) (set_fits bytes (n / 8) (bit_or x (y * 2 ^ (n % 8) % 256)) canonical.fits (or_of_8 x (y * 2 ^ (n % 8) % 256) (rw byte (canonical.fits (n / 8))) (omega arith))))

-- an item in a byte of its own
pub push_byte : (bytes after : List ℕ) (n b : ℕ) (v : Bool) → IsCanonical bytes n → n % 8 ≡ 0 → after ≡ bytes ++ b ∷ [] → b ≡ from_bool v → IsCanonical after (n + 1) × (take (n + 1) (bits after) ≡ take n (bits bytes) ++ v ∷ [])
push_byte bytes after n b v canonical whole e is =
    rw e (pushed_byte bytes n b v canonical whole is (append_fits bytes (b ∷ []) canonical.fits (item_fits b (rw is (bool_fits v)))))
  where
    item_fits : (b : ℕ) → b < 256 → AreBytes (b ∷ [])
    item_fits b h zero = h
    item_fits b h (suc k) = omega arith

    bool_fits : (v : Bool) → from_bool v < 256
    bool_fits true = omega arith
    bool_fits false = omega arith

-- an item written in its byte
pub bit_written : (bytes after : List ℕ) (n i b : ℕ) (v : Bool) → IsCanonical bytes n → i < n → after ≡ set bytes (i / 8) b → b < 256 → unnum 8 b ≡ set (unnum 8 (get_or bytes (i / 8) 0)) (i % 8) v → IsCanonical after n × (take n (bits after) ≡ set (take n (bits bytes)) i v)
bit_written bytes after n i b v canonical inside was fits byte =
    let e : bits after ≡ set (bits bytes) i v = ap bits was ∙ bits-set bytes (i / 8) (i % 8) i b v (omega (arith, canonical.exact)) (omega arith) (omega arith) byte in (
      record {
        fits = rw was (set_fits bytes (i / 8) b canonical.fits fits);
        exact = ap length was ∙ (length-set bytes (i / 8) b ∙ canonical.exact);
        clear = λ k h. let ne : k ≢ i = omega arith in ap (λ t. get_or t k false) e ∙ (get_or-set_other (bits bytes) i k v false ne ∙ canonical.clear k h);
      },
      ap (take n) e ∙ take-set-lt n (bits bytes) i v inside,
    )

-- all but the last item, and the last
pub popped : (bytes : List ℕ) (n m : ℕ) → IsCanonical bytes n → n ≡ m + 1 → take n (bits bytes) ≡ take m (bits bytes) ++ get_or (bits bytes) m false ∷ []
popped bytes n m canonical e = let l = length-bits bytes in rw e (take_more (bits bytes) m false (omega (arith, l, canonical.exact)))

pub ruleset buffers = (length_items, canonical-nil)
