-- Bits of numbers and of bytes: their indices, and the bits that a write changes.
use Rattle.std.proofs.Common.{◌≡◌, inl, inr, ℕ, zero, suc, ◌+◌, ◌-◌, ◌*◌, ◌/◌, ◌%◌, ◌^◌, ◌<◌, ◌==◌, List, [], ◌∷◌, ◌++◌, Bool, true, false, length, get_or, set, refl, ap, sym, ◌∙◌, arith, bit_and, bit_or}
use Rattle.std.proofs.lemmas.List.{length-append, length-set, get_or_append_left, get_or-append_right, set-append_left, set-append_right, get_or-set_same, get_or-set_other, ext_get_or}
use Rattle.std.proofs.lemmas.List.Concat.{flat_map-append}
use Rattle.std.proofs.lemmas.Bool.{cases_eq}
use Rattle.std.proofs.lemmas.Nat.Bits.{bit_at_lowest, bit_at-suc, shr_and_one, bit_at_set_same, bit_at_set_other, bit_at_clear_same, bit_at_clear_other}
use Rattle.std.specs.Int.{bit_at, bit_not, Width}
use mir.Val.{bits as width_bits}
use Rattle.arrow2_model.specs.Lists.{bit, unnum, bits}

pub length-unnum : (w x : ℕ) → length (unnum w x) ≡ w
unfolding unnum
length-unnum zero x = refl
length-unnum (suc w) x = ap suc (length-unnum w (x / 2))

pub get_or-unnum : (w x i : ℕ) (d : Bool) → i < w → get_or (unnum w x) i d ≡ bit x i
unfolding unnum bit
get_or-unnum zero x i d h = grind arith
get_or-unnum (suc w) x zero d h = refl
get_or-unnum (suc w) x (suc i) d h = get_or-unnum w (x / 2) i d (omega arith)

pub bits-nil : bits [] ≡ []
unfolding bits
bits-nil = refl

pub bits-cons : (b : ℕ) (bytes : List ℕ) → bits (b ∷ bytes) ≡ unnum 8 b ++ bits bytes
unfolding bits
bits-cons b bytes = refl

pub length-bits : (bytes : List ℕ) → length (bits bytes) ≡ 8 * length bytes
length-bits [] = ap length bits-nil
length-bits (b ∷ bytes) = ap length (bits-cons b bytes) ∙ (length-append (unnum 8 b) (bits bytes) ∙ grind (arith, length-unnum 8 b, length-bits bytes))

pub bits-append : (xs ys : List ℕ) → bits (xs ++ ys) ≡ bits xs ++ bits ys
unfolding bits
bits-append xs ys = flat_map-append (unnum 8) xs ys

-- item 8 * j + i is bit i of byte j
pub get_or-bits : (bytes : List ℕ) (j i k : ℕ) (d : Bool) → j < length bytes → i < 8 → k ≡ 8 * j + i → get_or (bits bytes) k d ≡ bit (get_or bytes j 0) i
get_or-bits [] j i k d h g e = grind arith
get_or-bits (b ∷ bytes) zero i k d h g e =
    let n = length-unnum 8 b in
    rw (bits-cons b bytes) (get_or_append_left (unnum 8 b) (bits bytes) d k (omega arith) ∙ (ap (λ m. get_or (unnum 8 b) m d) (omega arith) ∙ get_or-unnum 8 b i d g))
get_or-bits (b ∷ bytes) (suc j) i k d h g e =
    rw (bits-cons b bytes) (get_or-append_right (unnum 8 b) (bits bytes) 8 k d (length-unnum 8 b) (omega arith) ∙ get_or-bits bytes j i (k - 8) d (omega arith) g (omega arith))

-- the same, by index
pub get_or-bits_at : (bytes : List ℕ) (k : ℕ) (d : Bool) → k < 8 * length bytes → get_or (bits bytes) k d ≡ bit (get_or bytes (k / 8) 0) (k % 8)
get_or-bits_at bytes k d h = get_or-bits bytes (k / 8) (k % 8) k d (omega arith) (omega arith) (omega arith)

-- `(x >> i) & 1` of std
pub bit_is : (x i : ℕ) → bit x i ≡ (bit_at x i == 1)
unfolding bit
bit_is x zero = ap (λ n. n == 1) (sym (bit_at_lowest x))
bit_is x (suc i) = bit_is (x / 2) i ∙ ap (λ n. n == 1) (sym (bit_at-suc x i))

-- the test `(x >> i) & 1 == 1`
pub bit_shifted : (x i : ℕ) → (bit_and (x / 2 ^ i) 1 == 1) ≡ bit x i
bit_shifted x i = ap (λ n. n == 1) (shr_and_one x i) ∙ sym (bit_is x i)

-- `x | 1 << k`
pub unnum-or : (w : Width) (x k : ℕ) → k < width_bits w → unnum (width_bits w) (bit_or x (1 * 2 ^ k % 2 ^ width_bits w)) ≡ set (unnum (width_bits w) x) k true
unnum-or w x k h =
    let y : ℕ = bit_or x (1 * 2 ^ k % 2 ^ width_bits w) in
    let n = length-unnum (width_bits w) x in
    let m = length-unnum (width_bits w) y in
    let s = length-set (unnum (width_bits w) x) k true in
    ext_get_or false (unnum (width_bits w) y) (set (unnum (width_bits w) x) k true) (m ∙ sym (s ∙ n))
    (λ i i<. get_or-unnum (width_bits w) y i false (omega (arith, m)) ∙ (bit_is y i ∙ elim (cases_eq i k) [
      | inl e ↦ rw e (ap (λ a. a == 1) (bit_at_set_same w x k h) ∙ sym (get_or-set_same (unnum (width_bits w) x) k true false (omega (arith, n))))
      | inr e ↦ ap (λ a. a == 1) (bit_at_set_other w x k h i e) ∙ (sym (bit_is x i) ∙ sym (get_or-set_other (unnum (width_bits w) x) k i true false e ∙ get_or-unnum (width_bits w) x i false (omega (arith, m))))
    ]))

-- `x & !(1 << k)`
pub unnum-and-not : (w : Width) (x k : ℕ) → k < width_bits w → unnum (width_bits w) (bit_and x (bit_not w (1 * 2 ^ k % 2 ^ width_bits w))) ≡ set (unnum (width_bits w) x) k false
unnum-and-not w x k h =
    let y : ℕ = bit_and x (bit_not w (1 * 2 ^ k % 2 ^ width_bits w)) in
    let n = length-unnum (width_bits w) x in
    let m = length-unnum (width_bits w) y in
    let s = length-set (unnum (width_bits w) x) k false in
    ext_get_or false (unnum (width_bits w) y) (set (unnum (width_bits w) x) k false) (m ∙ sym (s ∙ n))
    (λ i i<. get_or-unnum (width_bits w) y i false (omega (arith, m)) ∙ (bit_is y i ∙ elim (cases_eq i k) [
      | inl e ↦ rw e (ap (λ a. a == 1) (bit_at_clear_same w x k h) ∙ sym (get_or-set_same (unnum (width_bits w) x) k false false (omega (arith, n))))
      | inr e ↦ ap (λ a. a == 1) (bit_at_clear_other w x k h i (omega (arith, m)) e) ∙ (sym (bit_is x i) ∙ sym (get_or-set_other (unnum (width_bits w) x) k i false false e ∙ get_or-unnum (width_bits w) x i false (omega (arith, m))))
    ]))

-- a byte with one of its bits written
pub bits-set : (bytes : List ℕ) (j i k b : ℕ) (v : Bool) → j < length bytes → i < 8 → k ≡ 8 * j + i → unnum 8 b ≡ set (unnum 8 (get_or bytes j 0)) i v → bits (set bytes j b) ≡ set (bits bytes) k v
bits-set [] j i k b v h g e w = grind arith
bits-set (x ∷ bytes) zero i k b v h g e w =
    let n = length-unnum 8 x in let e' : k ≡ i = omega arith in
    rw (bits-cons b bytes, bits-cons x bytes, w, e') (sym (set-append_left (unnum 8 x) (bits bytes) i v (omega arith)))
bits-set (x ∷ bytes) (suc j) i k b v h g e w =
    rw (bits-cons x (set bytes j b), bits-cons x bytes) (ap (λ t. unnum 8 x ++ t) (bits-set bytes j i (k - 8) b v (omega arith) g (omega arith) w) ∙ sym (set-append_right (unnum 8 x) (bits bytes) 8 k v (length-unnum 8 x) (omega arith)))
