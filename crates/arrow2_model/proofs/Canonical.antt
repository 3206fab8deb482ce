-- Bytes that hold n bits and nothing after them.
use Rattle.std.proofs.Common.{◌≡◌, ◌≢◌, inl, inr, ℕ, suc, ◌+◌, ◌-◌, ◌*◌, ◌/◌, ◌%◌, ◌^◌, ◌<◌, ◌≤◌, ◌==◌, List, [], ◌∷◌, ◌++◌, Bool, true, false, take, drop, replicate, length, get_or, set, refl, ap, sym, ◌∙◌, arith, subst, bit_or, mod-lt}
use Rattle.std.specs.Int as width
use Rattle.std.specs.Int.{div_ceil, from_bool, bit_at}
use Rattle.std.proofs.lemmas.Bool.{cases_lt, cases_eq}
use Rattle.std.proofs.lemmas.Nat.{shr_split, pow_pos}
use Rattle.std.proofs.lemmas.Nat.Bits.{bit_at_above, bit_at_cat_low}
use Rattle.std.specs.Int.Bits.{or_zero_r}
use Rattle.std.proofs.lemmas.List.{length-append, length-set, length-take, length-take-le, get_or-append_right, get_or-set_same, get_or-set_other, get_or-take, get_or_past, ext_get_or, take-append-le, take_more, take_more_set, append-nil, take-append-drop}
use Rattle.arrow2_model.specs.Lists.{bit, unnum, bits, part, words, canonical_bytes, IsCanonical}
use Rattle.arrow2_model.proofs.Bits.{length-unnum, get_or-unnum, bits-nil, bits-cons, bits-append, length-bits, get_or-bits, get_or-bits_at, bits-set, unnum-or, bit_is}
use Rattle.arrow2_model.proofs.Numbers.{bit-num, num-part-lt, same_from_bits}
use Rattle.arrow2_model.proofs.Parts.{get_or-falses, get_or-part}
use Rattle.arrow2_model.proofs.Words.{length-words, get_or-words}

-- the first bits and all of them have the same items, provided that nothing is set after the first
front_items : (items : List Bool) (n k : ℕ) → ((i : ℕ) → n ≤ i → get_or items i false ≡ false) → get_or (take n items) k false ≡ get_or items k false
front_items items n k clear = elim (cases_lt k n) [
  | inl lt ↦ get_or-take n items k false lt
  | inr ge ↦ let l = length-take n items in get_or_past (take n items) k false (omega (arith, l)) ∙ sym (clear k ge)
]

-- bytes that hold a list canonically are its words of eight items
pub canonical_is : (bytes : List ℕ) (n : ℕ) → IsCanonical bytes n → bytes ≡ canonical_bytes (take n (bits bytes))
unfolding canonical_bytes
canonical_is bytes n canonical =
    let items : List Bool = take n (bits bytes) in
    let l = length-bits bytes in
    let front : length items ≡ n = length-take-le n (bits bytes) (omega (arith, l, canonical.exact)) in
    let count : length (words 8 items) ≡ div_ceil (length items) 8 = length-words 8 items in
    let many : length bytes ≡ length (words 8 items) = grind (arith, count, front, canonical.exact) in
    ext_get_or 0 bytes (words 8 items) many
    (λ j h.
    let at : j < div_ceil (length items) 8 = omega (arith, count, many) in
    let word = get_or-words 8 items j at in
    same_from_bits 8 (get_or bytes j 0) (get_or (words 8 items) j 0) (canonical.fits j) (subst (λ x. x < 2 ^ 8) (sym word) (num-part-lt 8 items (8 * j)))
    (λ i i<.
    sym (get_or-bits bytes j i (8 * j + i) false h i< refl) ∙
    (sym (front_items (bits bytes) n (8 * j + i) canonical.clear) ∙
    (sym (get_or-part items (8 * j) 8 i false i<) ∙
    (sym (bit-num (part items (8 * j) 8) i) ∙ ap (λ x. bit x i) (sym word))))))

-- no bytes hold no items
pub canonical-nil : (bytes : List ℕ) → bytes ≡ [] → IsCanonical bytes 0
canonical-nil bytes e = record { fits = λ k. rw e (omega arith); exact = rw e refl; clear = λ k h. rw (e, bits-nil) refl }

-- ---- one item more

bits-push : (bytes : List ℕ) (b : ℕ) → bits (bytes ++ b ∷ []) ≡ bits bytes ++ unnum 8 b
bits-push bytes b = bits-append bytes (b ∷ []) ∙ ap (λ t. bits bytes ++ t) (bits-cons b [] ∙ (rw bits-nil (append-nil (unnum 8 b))))

unnum-from_bool : (v : Bool) → unnum 8 (from_bool v) ≡ v ∷ replicate 7 false
unfolding unnum
unnum-from_bool true = refl
unnum-from_bool false = refl

-- an item in a byte of its own
pub pushed_byte : (bytes : List ℕ) (n b : ℕ) (v : Bool) → IsCanonical bytes n → n % 8 ≡ 0 → b ≡ from_bool v → ((k : ℕ) → get_or (bytes ++ b ∷ []) k 0 < 256) → IsCanonical (bytes ++ b ∷ []) (n + 1) × (take (n + 1) (bits (bytes ++ b ∷ [])) ≡ take n (bits bytes) ++ v ∷ [])
pushed_byte bytes n b v canonical whole is fits =
    let l = length-bits bytes in
    let m : length (bits bytes) ≡ n = omega (arith, l, canonical.exact) in
    let tail : List Bool = v ∷ replicate 7 false in
    let e : bits (bytes ++ b ∷ []) ≡ bits bytes ++ tail = bits-push bytes b ∙ ap (λ t. bits bytes ++ t) (ap (unnum 8) is ∙ unnum-from_bool v) in
    let a = length-append bytes (b ∷ []) in
    let c = length-append (bits bytes) tail in (
      record {
        fits = fits;
        exact = omega (arith, a, canonical.exact);
        clear = λ k h. ap (λ t. get_or t k false) e ∙ (get_or-append_right (bits bytes) tail n k false m (omega arith) ∙
            (let s : k - n ≡ suc (k - n - 1) = omega arith in rw s (get_or-falses 7 (k - n - 1))));
      },
      ap (take (n + 1)) e ∙ (take_more (bits bytes ++ tail) n false (omega (arith, c, m)) ∙
          (let front : take n (bits bytes ++ tail) ≡ take n (bits bytes) = take-append-le n (bits bytes) tail (omega (arith, m)) in
          let last : get_or (bits bytes ++ tail) n false ≡ v = get_or-append_right (bits bytes) tail n n false m (omega arith) ∙ (let z : n - n ≡ 0 = omega arith in rw z refl) in
          rw (front, last) refl)),
    )

-- `x | v << k`, where the bit was false
pub unnum-or_bool : (x k : ℕ) (v : Bool) → k < 8 → bit x k ≡ false → unnum 8 (bit_or x (from_bool v * 2 ^ k % 2 ^ 8)) ≡ set (unnum 8 x) k v
unnum-or_bool x k true h clear = unnum-or width.w8 x k h
unnum-or_bool x k false h clear =
    let n = length-unnum 8 x in
    let s = length-set (unnum 8 x) k false in
    let z : 0 * 2 ^ k % 2 ^ 8 ≡ 0 = omega arith in
    rw (z, or_zero_r x) (ext_get_or false (unnum 8 x) (set (unnum 8 x) k false) (sym s)
    (λ i i<. elim (cases_eq i k) [
      | inl e ↦ rw e (get_or-unnum 8 x k false h ∙ (clear ∙ sym (get_or-set_same (unnum 8 x) k false false (omega (arith, n)))))
      | inr e ↦ sym (get_or-set_other (unnum 8 x) k i false false e)
    ]))

-- an item in the last byte
pub pushed_bit : (bytes : List ℕ) (n b : ℕ) (v : Bool) → IsCanonical bytes n → 0 < n % 8 → b ≡ bit_or (get_or bytes (n / 8) 0) (from_bool v * 2 ^ (n % 8) % 2 ^ 8) → ((k : ℕ) → get_or (set bytes (n / 8) b) k 0 < 256) → IsCanonical (set bytes (n / 8) b) (n + 1) × (take (n + 1) (bits (set bytes (n / 8) b)) ≡ take n (bits bytes) ++ v ∷ [])
pushed_bit bytes n b v canonical some is fits =
    let l = length-bits bytes in
    let s = length-set bytes (n / 8) b in
    let j< : n / 8 < length bytes = omega (arith, canonical.exact) in
    let clear : bit (get_or bytes (n / 8) 0) (n % 8) ≡ false = sym (get_or-bits_at bytes n false (omega arith)) ∙ canonical.clear n (omega arith) in
    let byte : unnum 8 b ≡ set (unnum 8 (get_or bytes (n / 8) 0)) (n % 8) v = ap (unnum 8) is ∙ unnum-or_bool (get_or bytes (n / 8) 0) (n % 8) v (omega arith) clear in
    let e : bits (set bytes (n / 8) b) ≡ set (bits bytes) n v = bits-set bytes (n / 8) (n % 8) n b v j< (omega arith) (omega arith) byte in (
      record {
        fits = fits;
        exact = omega (arith, s, canonical.exact);
        clear = λ k h. let ne : k ≢ n = omega arith in ap (λ t. get_or t k false) e ∙ (get_or-set_other (bits bytes) n k v false ne ∙ canonical.clear k (omega arith));
      },
      ap (take (n + 1)) e ∙ take_more_set (bits bytes) n v (omega (arith, l)),
    )

-- ---- the bits after the items are cut off

bit-low : (x i p : ℕ) → p < i → bit (x % 2 ^ i) p ≡ bit x p
bit-low x i p h = bit_is (x % 2 ^ i) p ∙ (ap (λ t. t == 1) (sym (ap (λ t. bit_at t p) (sym (shr_split x i)) ∙ bit_at_cat_low (x / 2 ^ i) i (x % 2 ^ i) p h)) ∙ sym (bit_is x p))

bit-high : (x i p : ℕ) → i ≤ p → bit (x % 2 ^ i) p ≡ false
bit-high x i p h = bit_is (x % 2 ^ i) p ∙ ap (λ t. t == 1) (bit_at_above (x % 2 ^ i) i p (mod-lt x (pow_pos i)) h)

-- a front of whole bytes, where n ends a byte
pub cut_whole : (bytes : List ℕ) (n : ℕ) → n ≤ 8 * length bytes → n % 8 ≡ 0 → ((k : ℕ) → get_or (take ((n + 7) / 8) bytes) k 0 < 256) → IsCanonical (take ((n + 7) / 8) bytes) n × (take n (bits (take ((n + 7) / 8) bytes)) ≡ take n (bits bytes))
cut_whole bytes n h whole fits =
    let m : ℕ = (n + 7) / 8 in
    let t = length-take-le m bytes (omega arith) in
    let l = length-bits (take m bytes) in (
      record { fits = fits; exact = t; clear = λ k g. get_or_past (bits (take m bytes)) k false (omega (arith, l, t)) },
      let e = ap bits (take-append-drop m bytes) in
          sym (ap (take n) (sym e ∙ bits-append (take m bytes) (drop m bytes)) ∙ take-append-le n (bits (take m bytes)) (bits (drop m bytes)) (omega (arith, l, t))),
    )

-- the same where n ends within a byte, whose higher bits are cleared
pub cut_within : (bytes : List ℕ) (n b : ℕ) → n ≤ 8 * length bytes → 0 < n % 8 → b ≡ get_or (take ((n + 7) / 8) bytes) (n / 8) 0 % 2 ^ (n % 8) → ((k : ℕ) → get_or (set (take ((n + 7) / 8) bytes) (n / 8) b) k 0 < 256) → IsCanonical (set (take ((n + 7) / 8) bytes) (n / 8) b) n × (take n (bits (set (take ((n + 7) / 8) bytes) (n / 8) b)) ≡ take n (bits bytes))
cut_within bytes n b h some is fits =
    let m : ℕ = (n + 7) / 8 in
    let j : ℕ = n / 8 in
    let front : List ℕ = take m bytes in
    let t = length-take-le m bytes (omega arith) in
    let s = length-set front j b in
    let after : List ℕ = set front j b in
    let la = length-bits after in
    let lb = length-bits bytes in
    let j< : j < length front = omega (arith, t) in
    let same : (k : ℕ) → k < n → get_or (bits after) k false ≡ get_or (bits bytes) k false =
    λ k k<. get_or-bits_at after k false (omega (arith, s, t)) ∙ (elim (cases_eq (k / 8) j) [
      | inl e ↦ rw e (ap (λ x. bit x (k % 8)) (get_or-set_same front j b 0 j< ∙ is) ∙ (bit-low (get_or front j 0) (n % 8) (k % 8) (omega arith) ∙
          ap (λ x. bit x (k % 8)) (get_or-take m bytes j 0 (omega arith))))
      | inr e ↦ ap (λ x. bit x (k % 8)) (get_or-set_other front j (k / 8) b 0 e ∙ get_or-take m bytes (k / 8) 0 (omega arith))
    ] ∙ sym (get_or-bits_at bytes k false (omega arith))) in
    let cut : (k : ℕ) → n ≤ k → get_or (bits after) k false ≡ false =
    λ k k≥. elim (cases_lt k (8 * length after)) [
      | inl lt ↦ let e : k / 8 ≡ j = omega (arith, s, t) in get_or-bits_at after k false lt ∙ (rw e (ap (λ x. bit x (k % 8)) (get_or-set_same front j b 0 j< ∙ is) ∙ bit-high (get_or front j 0) (n % 8) (k % 8) (omega arith)))
      | inr ge ↦ get_or_past (bits after) k false (omega (arith, la))
    ] in
    let na = length-take-le n (bits after) (omega (arith, la, s, t)) in
    let nb = length-take-le n (bits bytes) (omega (arith, lb)) in (
      record { fits = fits; exact = omega (arith, s, t); clear = cut },
      ext_get_or false (take n (bits after)) (take n (bits bytes)) (na ∙ sym nb)
          (λ k k<. let lt : k < n = omega (arith, na) in get_or-take n (bits after) k false lt ∙ (same k lt ∙ sym (get_or-take n (bits bytes) k false lt))),
    )

-- ---- the bytes determine the list

-- an item, read from the bytes
get_or-canonical_bytes : (items : List Bool) (k : ℕ) → k < length items → get_or items k false ≡ bit (get_or (canonical_bytes items) (k / 8) 0) (k % 8)
unfolding canonical_bytes
get_or-canonical_bytes items k h =
    let at : k / 8 < div_ceil (length items) 8 = grind arith in
    let position : 8 * (k / 8) + k % 8 ≡ k = omega arith in
    sym (ap (λ x. bit x (k % 8)) (get_or-words 8 items (k / 8) at) ∙
    (bit-num (part items (8 * (k / 8)) 8) (k % 8) ∙
    (get_or-part items (8 * (k / 8)) 8 (k % 8) false (omega arith) ∙ ap (λ p. get_or items p false) position)))

pub same_from_canonical_bytes : (xs ys : List Bool) → length xs ≡ length ys → canonical_bytes xs ≡ canonical_bytes ys → xs ≡ ys
same_from_canonical_bytes xs ys l e =
    ext_get_or false xs ys l (λ k h. get_or-canonical_bytes xs k h ∙ (ap (λ b. bit (get_or b (k / 8) 0) (k % 8)) e ∙ sym (get_or-canonical_bytes ys k (omega (arith, l)))))

-- exactly the bytes that hold the list
pub length-canonical_bytes : (items : List Bool) → length (canonical_bytes items) ≡ (length items + 7) / 8
unfolding canonical_bytes
length-canonical_bytes items = length-words 8 items ∙ grind arith

-- the list, read from its bytes
pub items-canonical_bytes : (items : List Bool) → take (length items) (bits (canonical_bytes items)) ≡ items
items-canonical_bytes items =
    let l = length-canonical_bytes items in
    let b = length-bits (canonical_bytes items) in
    let t = length-take-le (length items) (bits (canonical_bytes items)) (omega (arith, l, b)) in
    ext_get_or false (take (length items) (bits (canonical_bytes items))) items t (λ k k<.
    let lt : k < length items = omega (arith, t) in
    get_or-take (length items) (bits (canonical_bytes items)) k false lt ∙ (get_or-bits_at (canonical_bytes items) k false (omega (arith, l)) ∙ sym (get_or-canonical_bytes items k lt)))

pub ruleset canonical = (same_from_canonical_bytes)
