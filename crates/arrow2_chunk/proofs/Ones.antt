-- The indices of the set bits of a word.
use Rattle.std.proofs.Common.{◌≡◌, ℕ, zero, suc, ◌+◌, ◌-◌, ◌*◌, ◌/◌, ◌%◌, ◌^◌, ◌<◌, Bool, List, [], ◌∷◌, length, get_or, drop, set, true, false, refl, ap, sym, ◌∙◌, inl, inr, arith, min, ◌≢◌, bit_and, count_ones, filter}
use Rattle.std.specs.Int as width
use Rattle.std.specs.Int.{bit_at, Width, trailing_zeros}
use Rattle.std.specs.List.{range_with_len}
use mir.Val.{bits as width_bits}
use Rattle.std.proofs.lemmas.Bool.{cases_lt, cases_eq}
use Rattle.std.proofs.lemmas.Nat.{shr_split, pow_pos}
use Rattle.std.proofs.lemmas.Nat.Bits.{bit_at_and, bit_at_cat_low, bit_at_cat_high, bit_at-trailing_zeros, bit_at_lowest, bit_at-suc, bit_at-zero, same_from_bits_below}
use Rattle.std.proofs.Math.Nat.{mod-lt, mod-eq_of_lt, add-mod_right, suc-mul, zero-add, lt_trans}
use Rattle.std.proofs.lemmas.List.{length-set, get_or-set_same, get_or-set_other, get_or_past}
use Rattle.std.proofs.lemmas.Simd.{ones-mask_l, ones-mask_l_cons}
use Rattle.arrow2_model.specs.Lists.{unnum, num}
use Rattle.arrow2_chunk.specs.Ones.{ones}
use Rattle.arrow2_model.proofs.Bits.{length-unnum}
use Rattle.arrow2_model.proofs.Numbers.{num-unnum}
use Rattle.arrow2_model.proofs.Chunks.{word_is, item_is, same_test}

-- the same, from index k on
ones_from : ℕ → List Bool → List ℕ
ones_from k [] = []
ones_from k (true ∷ items) = k ∷ ones_from (k + 1) items
ones_from k (false ∷ items) = ones_from (k + 1) items

ones_along : (k n : ℕ) (items : List Bool) (p : ℕ → Bool) → length items ≡ n → ((i : ℕ) → i < n → p (k + i) ≡ get_or items i false) → filter p (range_with_len k n) ≡ ones_from k items
unfolding ones_from
ones_along k zero [] p l h = refl
ones_along k zero (b ∷ items) p l h = absurd (omega arith)
ones_along k (suc n) [] p l h = absurd (omega arith)
ones_along k (suc n) (true ∷ items) p l h =
    let same : k + 0 ≡ k = omega arith in
    let here : p k ≡ true = ap p (sym same) ∙ h 0 (omega arith) in
    let rest = ones_along (k + 1) n items p (omega arith) (λ i i<. ap p (omega arith) ∙ h (suc i) (omega arith)) in
    rw (here, rest) refl
ones_along k (suc n) (false ∷ items) p l h =
    let same : k + 0 ≡ k = omega arith in
    let here : p k ≡ false = ap p (sym same) ∙ h 0 (omega arith) in
    let rest = ones_along (k + 1) n items p (omega arith) (λ i i<. ap p (omega arith) ∙ h (suc i) (omega arith)) in
    rw (here, rest) refl

ones_is : (items : List Bool) → ones items ≡ ones_from 0 items
unfolding ones
ones_is items = ones_along 0 (length items) items (λ i. get_or items i false) refl (λ i h. ap (λ j. get_or items j false) (omega arith))

ones_from-none : (k : ℕ) (items : List Bool) → ((i : ℕ) → get_or items i false ≡ false) → ones_from k items ≡ []
unfolding ones_from
ones_from-none k [] h = refl
ones_from-none k (true ∷ items) h = let e : true ≡ false = h 0 in cc
ones_from-none k (false ∷ items) h = ones_from-none (k + 1) items (λ i. h (suc i))

-- the first true item, and then those of the list without it
ones_from-first : (k t : ℕ) (items : List Bool) → get_or items t false ≡ true → ((i : ℕ) → i < t → get_or items i false ≡ false) → ones_from k items ≡ (k + t) ∷ ones_from k (set items t false)
unfolding ones_from
ones_from-first k t [] e h = cc
ones_from-first k zero (true ∷ items) e h = ap (λ (j : ℕ). j ∷ ones_from (k + 1) items) (omega arith)
ones_from-first k zero (false ∷ items) e h = cc
ones_from-first k (suc t) (true ∷ items) e h = let f : true ≡ false = h 0 (omega arith) in cc
ones_from-first k (suc t) (false ∷ items) e h =
    ones_from-first (k + 1) t items e (λ i i<. h (suc i) (omega arith)) ∙ ap (λ (j : ℕ). j ∷ ones_from (k + 1) (set items t false)) (omega arith)

length-ones_from : (k : ℕ) (items : List Bool) → count_ones (num items) ≡ length (ones_from k items)
unfolding ones_from
length-ones_from k [] = ones-mask_l (λ b. b) []
length-ones_from k (true ∷ items) = ones-mask_l_cons true items ∙ (rw (length-ones_from (k + 1) items) (omega arith))
length-ones_from k (false ∷ items) = ones-mask_l_cons false items ∙ (rw (length-ones_from (k + 1) items) (omega arith))

-- ---- words

-- no bit below t is set, so 2 ^ t divides x
low_none : (x t : ℕ) → ((j : ℕ) → j < t → bit_at x j ≡ 0) → x % 2 ^ t ≡ 0
low_none x t h = same_from_bits_below t (x % 2 ^ t) 0 (mod-lt x (pow_pos t)) (pow_pos t)
    (λ i i<. sym (ap (λ y. bit_at y i) (sym (shr_split x t)) ∙ bit_at_cat_low (x / 2 ^ t) t (x % 2 ^ t) i i<) ∙ (h i i< ∙ sym (bit_at-zero i)))

-- y is odd, so y and y - 1 have the same bits but for the lowest
above_same : (y j : ℕ) → y % 2 ≡ 1 → bit_at (y - 1) (suc j) ≡ bit_at y (suc j)
above_same y j e =
    let half : (y - 1) / 2 ≡ y / 2 = omega arith in
    bit_at-suc (y - 1) j ∙ (ap (λ z. bit_at z j) half ∙ sym (bit_at-suc y j))

split_at : (x t : ℕ) → x % 2 ^ t ≡ 0 → x ≡ x / 2 ^ t * 2 ^ t + 0
split_at x t z = sym (shr_split x t) ∙ ap (λ r. x / 2 ^ t * 2 ^ t + r) z

before_split : (q p : ℕ) → 0 < q → 0 < p → q * p + 0 - 1 ≡ (q - 1) * p + (p - 1)
before_split zero p h k = absurd (omega arith)
before_split (suc q) p h k = let e : suc q * p ≡ q * p + p = suc-mul q p in let f : suc q - 1 ≡ q = omega arith in rw (e, f) (omega arith)

bit_min : (a b : ℕ) → a ≡ b → min b a ≡ b
bit_min a b e = omega arith

-- `x & (x - 1)` has the bits of x but for the lowest one that is set
cleared_same : (x t i : ℕ) → bit_at x t ≡ 1 → ((j : ℕ) → j < t → bit_at x j ≡ 0) → i ≢ t → bit_at (bit_and x (x - 1)) i ≡ bit_at x i
cleared_same x t i e h other = elim (cases_lt i t) [
  | inl below ↦ bit_at_and x (x - 1) i ∙ (rw (h i below) (omega arith))
  | inr above ↦
      let q : ℕ = x / 2 ^ t in
      let p : ℕ = 2 ^ t in
      let j : ℕ = i - t - 1 in
      let whole = split_at x t (low_none x t h) in
      let odd : q % 2 ≡ 1 = e in
      let past : i - t ≡ suc j = omega arith in
      let p0 : 0 < p = pow_pos t in
      let mine : bit_at x i ≡ bit_at q (suc j) = ap (λ y. bit_at y i) whole ∙ (bit_at_cat_high q t 0 i p0 above ∙ ap (bit_at q) past) in
      let less : x - 1 ≡ (q - 1) * p + (p - 1) = ap (λ y. y - 1) whole ∙ before_split q p (omega arith) p0 in
      let theirs : bit_at (x - 1) i ≡ bit_at (q - 1) (suc j) = ap (λ y. bit_at y i) less ∙ (bit_at_cat_high (q - 1) t (p - 1) i (omega arith) above ∙ ap (bit_at (q - 1)) past) in
      bit_at_and x (x - 1) i ∙ bit_min (bit_at (x - 1) i) (bit_at x i) (theirs ∙ (above_same q j odd ∙ sym mine))
]

-- and the lowest is gone
cleared_lowest : (x t : ℕ) → bit_at x t ≡ 1 → ((j : ℕ) → j < t → bit_at x j ≡ 0) → bit_at (bit_and x (x - 1)) t ≡ 0
cleared_lowest x t e h =
    let q : ℕ = x / 2 ^ t in
    let p : ℕ = 2 ^ t in
    let whole = split_at x t (low_none x t h) in
    let odd : q % 2 ≡ 1 = e in
    let p0 : 0 < p = pow_pos t in
    let none : t - t ≡ 0 = omega arith in
    let less : x - 1 ≡ (q - 1) * p + (p - 1) = ap (λ y. y - 1) whole ∙ before_split q p (omega arith) p0 in
    let theirs : bit_at (x - 1) t ≡ (q - 1) % 2 = ap (λ y. bit_at y t) less ∙ (bit_at_cat_high (q - 1) t (p - 1) t (omega arith) (omega arith) ∙ (ap (bit_at (q - 1)) none ∙ bit_at_lowest (q - 1))) in
    bit_at_and x (x - 1) t ∙ (rw theirs (omega arith))

-- the word `x & (x - 1)`
unnum-cleared : (w x t : ℕ) → t < w → bit_at x t ≡ 1 → ((j : ℕ) → j < t → bit_at x j ≡ 0) → unnum w (bit_and x (x - 1)) ≡ set (unnum w x) t false
unnum-cleared w x t l e h =
    let n = length-unnum w x in
    word_is w (bit_and x (x - 1)) (set (unnum w x) t false) (length-set (unnum w x) t false ∙ n)
    (λ i i<. elim (cases_eq i t) [
      | inl same ↦ rw same (get_or-set_same (unnum w x) t false false (omega (arith, n)) ∙ sym (same_test (bit_at (bit_and x (x - 1)) t) 0 (cleared_lowest x t e h)))
      | inr other ↦ get_or-set_other (unnum w x) t i false false other ∙ (item_is w x i i< ∙ sym (same_test (bit_at (bit_and x (x - 1)) i) (bit_at x i) (cleared_same x t i e h other)))
    ])

-- ---- in the form of the code

pub ones-zero : (w x : ℕ) → x ≡ 0 → ones (unnum w x) ≡ []
ones-zero w x e =
    let n = length-unnum w x in
    ones_is (unnum w x) ∙ ones_from-none 0 (unnum w x) (λ i. elim (cases_lt i w) [
      | inl inside ↦ item_is w x i inside ∙ same_test (bit_at x i) 0 (ap (λ y. bit_at y i) e ∙ bit_at-zero i)
      | inr past ↦ get_or_past (unnum w x) i false (omega (arith, n))
    ])

-- the lowest set bit, and those of the word without it
pub ones-first : (w : Width) (x : ℕ) → 0 < x → x < 2 ^ width_bits w → ones (unnum (width_bits w) x) ≡ trailing_zeros w x ∷ ones (unnum (width_bits w) (bit_and x (x - 1)))
ones-first w x h k =
    let found = bit_at-trailing_zeros w x h k in
    let n : ℕ = width_bits w in
    let t : ℕ = trailing_zeros w x in
    let items : List Bool = unnum n x in
    ones_is items ∙ (ones_from-first 0 t items
    (item_is n x t found.0 ∙ same_test (bit_at x t) 1 found.1)
    (λ i i<. item_is n x i (lt_trans i< found.0) ∙ same_test (bit_at x i) 0 (found.2 i i<))
    ∙ (ap (λ (j : ℕ). j ∷ ones_from 0 (set items t false)) (zero-add t) ∙ ap (λ (ys : List ℕ). t ∷ ys) (sym (ones_is (set items t false)) ∙ ap ones (sym (unnum-cleared n x t found.0 found.1 found.2)))))

one_less : (x m : ℕ) → 0 < x → x < m → (x + (m - 1)) % m ≡ x - 1
one_less x m h k =
    let e : x + (m - 1) ≡ (x - 1) + m = omega arith in
    rw e (add-mod_right (x - 1) m ∙ mod-eq_of_lt (omega arith))

above_none : (x : ℕ) → (x ≡ 0 → ⊥) → 0 < x
above_none zero h = absurd (h refl)
above_none (suc x) h = omega arith

first_position : (w : Width) (x p : ℕ) → 0 < length (ones (unnum (width_bits w) x)) → x < 2 ^ width_bits w → p ≡ trailing_zeros w x → ones (unnum (width_bits w) x) ≡ p ∷ drop 1 (ones (unnum (width_bits w) x))
first_position w x p h k e =
    let some : x ≡ 0 → ⊥ = λ none. absurd (omega (arith, h, ap length (ones-zero (width_bits w) x none))) in
    let all = ones-first w x (above_none x some) k in
    all ∙ (rw (all, e) refl)

and_zero : (x y : ℕ) → x ≡ 0 → bit_and x y ≡ 0
and_zero x y e = ap (λ z. bit_and z y) e

-- `x & x.wrapping_sub(1)`
rest_of : (w : Width) (x r : ℕ) → x < 2 ^ width_bits w → r ≡ bit_and x ((x + (2 ^ width_bits w - 1)) % 2 ^ width_bits w) → ones (unnum (width_bits w) r) ≡ drop 1 (ones (unnum (width_bits w) x))
rest_of w x r k e = elim (cases_eq x 0) [
  | inl none ↦
      ones-zero (width_bits w) r (e ∙ and_zero x ((x + (2 ^ width_bits w - 1)) % 2 ^ width_bits w) none)
      ∙ sym (ap (drop 1) (ones-zero (width_bits w) x none))
  | inr some ↦
      let above = above_none x some in
      let less : (x + (2 ^ width_bits w - 1)) % 2 ^ width_bits w ≡ x - 1 = one_less x (2 ^ width_bits w) above k in
      let all = ones-first w x above k in
      ap (λ y. ones (unnum (width_bits w) y)) (e ∙ ap (bit_and x) less) ∙ sym (ap (drop 1) all)
]

-- `count_ones`
pub length-ones : (w x : ℕ) → x < 2 ^ w → count_ones x ≡ length (ones (unnum w x))
length-ones w x h = ap count_ones (sym (num-unnum w x h)) ∙ (length-ones_from 0 (unnum w x) ∙ ap length (sym (ones_is (unnum w x))))

pub first_8 : (x p : ℕ) → 0 < length (ones (unnum 8 x)) → x < 2 ^ 8 → p ≡ trailing_zeros width.w8 x → ones (unnum 8 x) ≡ p ∷ drop 1 (ones (unnum 8 x))
first_8 x p h k e = first_position width.w8 x p h k e

pub rest_8 : (x r : ℕ) → x < 2 ^ 8 → r ≡ bit_and x ((x + (2 ^ 8 - 1)) % 2 ^ 8) → ones (unnum 8 r) ≡ drop 1 (ones (unnum 8 x))
rest_8 x r k e = rest_of width.w8 x r k e

pub first_16 : (x p : ℕ) → 0 < length (ones (unnum 16 x)) → x < 2 ^ 16 → p ≡ trailing_zeros width.w16 x → ones (unnum 16 x) ≡ p ∷ drop 1 (ones (unnum 16 x))
first_16 x p h k e = first_position width.w16 x p h k e

pub rest_16 : (x r : ℕ) → x < 2 ^ 16 → r ≡ bit_and x ((x + (2 ^ 16 - 1)) % 2 ^ 16) → ones (unnum 16 r) ≡ drop 1 (ones (unnum 16 x))
rest_16 x r k e = rest_of width.w16 x r k e

pub first_32 : (x p : ℕ) → 0 < length (ones (unnum 32 x)) → x < 2 ^ 32 → p ≡ trailing_zeros width.w32 x → ones (unnum 32 x) ≡ p ∷ drop 1 (ones (unnum 32 x))
first_32 x p h k e = first_position width.w32 x p h k e

pub rest_32 : (x r : ℕ) → x < 2 ^ 32 → r ≡ bit_and x ((x + (2 ^ 32 - 1)) % 2 ^ 32) → ones (unnum 32 r) ≡ drop 1 (ones (unnum 32 x))
rest_32 x r k e = rest_of width.w32 x r k e

pub first_64 : (x p : ℕ) → 0 < length (ones (unnum 64 x)) → x < 2 ^ 64 → p ≡ trailing_zeros width.w64 x → ones (unnum 64 x) ≡ p ∷ drop 1 (ones (unnum 64 x))
first_64 x p h k e = first_position width.w64 x p h k e

pub rest_64 : (x r : ℕ) → x < 2 ^ 64 → r ≡ bit_and x ((x + (2 ^ 64 - 1)) % 2 ^ 64) → ones (unnum 64 r) ≡ drop 1 (ones (unnum 64 x))
rest_64 x r k e = rest_of width.w64 x r k e

pub ruleset set_bits = (ones-zero, length-ones, first_8, rest_8, first_16, rest_16, first_32, rest_32, first_64, rest_64)
