-- Counts of false items.
use Rattle.std.proofs.Common.{◌≡◌, ℕ, ◌+◌, ◌-◌, ◌/◌, ◌%◌, ◌^◌, ◌<◌, ◌≤◌, List, [], ◌∷◌, ◌++◌, Bool, true, false, cond, not, take, drop, length, get_or, subst, refl, ap, sym, ◌∙◌, arith, zero, suc, replicate, zero-add, count_ones, count_by, mod-lt, map-id, drop_at, take_at, pow_pos}
use Rattle.std.proofs.lemmas.List.Sums.{count_by-le-length, sum_by-append, sum_by-cons}
use Rattle.std.proofs.lemmas.Simd.{ones-mask_l}
use Rattle.arrow2_model.specs.Lists.{unnum, bits, num, part, falses}
use Rattle.arrow2_model.proofs.Bits.{length-unnum, bits-cons}
use Rattle.arrow2_model.proofs.Chunks.{unnum-add, unnum-mod}
use Rattle.arrow2_model.proofs.Numbers.{num-unnum}
use Rattle.arrow2_model.proofs.Parts.{part-add, part-front, part_all}

pub falses-le-length : (items : List Bool) → falses items ≤ length items
falses-le-length items = count_by-le-length not items

-- a list in two
pub falses-append : (xs ys : List Bool) → falses (xs ++ ys) ≡ falses xs + falses ys
falses-append xs ys = sum_by-append (λ x. cond (not x) 1 0) xs ys

-- the true items and the false ones are all items
pub trues-falses : (items : List Bool) → count_by (λ x. x) items + falses items ≡ length items
trues-falses [] = refl
trues-falses (true ∷ items) =
    let a = sum_by-cons (λ (x : Bool). cond x 1 0) true items in
    let b = sum_by-cons (λ (x : Bool). cond (not x) 1 0) true items in
    let r = trues-falses items in
    omega (arith, a, b, r)
trues-falses (false ∷ items) =
    let a = sum_by-cons (λ (x : Bool). cond x 1 0) false items in
    let b = sum_by-cons (λ (x : Bool). cond (not x) 1 0) false items in
    let r = trues-falses items in
    omega (arith, a, b, r)

-- a list in two parts
pub falses-parts : (items : List Bool) (m n : ℕ) → length items ≡ m + n → falses (part items 0 m) + falses (part items m n) ≡ falses items
falses-parts items m n e =
    let all : part items 0 (m + n) ≡ items = part_all items (m + n) e in
    sym (falses-append (part items 0 m) (part items m n)) ∙ (ap falses (sym (part-add items 0 m n ∙ ap (λ a. part items 0 m ++ part items a n) (zero-add m))) ∙ ap falses all)

-- no item is false exactly where all are true
pub falses-none : (items : List Bool) → falses items ≡ 0 → items ≡ replicate (length items) true
falses-none [] e = refl
falses-none (true ∷ items) e =
    let s = sum_by-cons (λ (x : Bool). cond (not x) 1 0) true items in
    ap (λ t. true ∷ t) (falses-none items (omega (arith, s, e)))
falses-none (false ∷ items) e =
    let s = sum_by-cons (λ (x : Bool). cond (not x) 1 0) false items in
    absurd (omega (arith, s, e))

pub falses-all_true : (n : ℕ) → falses (replicate n true) ≡ 0
falses-all_true zero = refl
falses-all_true (suc n) =
    let s = sum_by-cons (λ (x : Bool). cond (not x) 1 0) true (replicate n true) in
    omega (arith, s, falses-all_true n)

pub falses-all_false : (n : ℕ) → falses (replicate n false) ≡ n
falses-all_false zero = refl
falses-all_false (suc n) =
    let s = sum_by-cons (λ (x : Bool). cond (not x) 1 0) false (replicate n false) in
    omega (arith, s, falses-all_false n)

-- the population count of a word counts its true items
pub falses-unnum : (w x : ℕ) → x < 2 ^ w → falses (unnum w x) + count_ones x ≡ w
falses-unnum w x h =
    let n = num-unnum w x h in
    let o : count_ones x ≡ count_by (λ b. b) (unnum w x) = sym (ap count_ones n) ∙ (ap (λ l. count_ones (num l)) (sym (map-id (unnum w x))) ∙ ones-mask_l (λ b. b) (unnum w x)) in
    let c = trues-falses (unnum w x) in
    let l = length-unnum w x in
    omega (arith, o, c, l)

pub ones-counted : (w x n : ℕ) → x < 2 ^ w → n ≡ count_ones x → n + falses (unnum w x) ≡ w
ones-counted w x n h e = omega (arith, falses-unnum w x h, e)

pub ruleset counted_words = (ones-counted)

-- a part in three
pub falses-part_three : (items : List Bool) (a m n k all : ℕ) → all ≡ m + (n + k) → falses (part items a all) ≡ falses (part items a m) + (falses (part items (a + m) n) + falses (part items (a + m + n) k))
falses-part_three items a m n k all e =
    rw (e, part-add items a m (n + k), part-add items (a + m) n k) (falses-append (part items a m) (part items (a + m) n ++ part items (a + m + n) k) ∙ ap (λ r. falses (part items a m) + r) (falses-append (part items (a + m) n) (part items (a + m + n) k)))

-- ---- whole words of bytes

-- ---- some bits of one byte

drop-unnum : (m n x : ℕ) → drop m (unnum (m + n) x) ≡ unnum n (x / 2 ^ m)
drop-unnum m n x = ap (drop m) (unnum-add m n x) ∙ drop_at (unnum m x) (unnum n (x / 2 ^ m)) m (length-unnum m x)

take-unnum : (m n x : ℕ) → take m (unnum (m + n) x) ≡ unnum m x
take-unnum m n x = ap (take m) (unnum-add m n x) ∙ take_at (unnum m x) (unnum n (x / 2 ^ m)) m (length-unnum m x)

-- the n bits of a byte from bit s on, as a word
pub falses-byte_part : (bytes : List ℕ) (s n x : ℕ) → 0 < length bytes → s + n ≤ 8 → x ≡ get_or bytes 0 0 / 2 ^ s % 2 ^ n → falses (part (bits bytes) s n) + count_ones x ≡ n
falses-byte_part [] s n x h k e = grind arith
falses-byte_part (b ∷ bytes) s n x h k e =
    let l = length-unnum 8 b in
    let r : ℕ = 8 - s - n in
    let whole : s + (n + r) ≡ 8 = omega arith in
    let first : part (bits (b ∷ bytes)) s n ≡ part (unnum 8 b) s n =
    rw (bits-cons b bytes) (part-front (unnum 8 b) (bits bytes) s n (omega (arith, l))) in
    let word : part (unnum 8 b) s n ≡ unnum n (b / 2 ^ s) =
    ap (λ w. part (unnum w b) s n) (sym whole) ∙ (ap (take n) (drop-unnum s (n + r) b) ∙ take-unnum n r (b / 2 ^ s)) in
    let low : unnum n x ≡ unnum n (b / 2 ^ s) = ap (unnum n) e ∙ unnum-mod n (b / 2 ^ s) in
    let fits : x < 2 ^ n = subst (λ y. y < 2 ^ n) (sym e) (mod-lt (b / 2 ^ s) (pow_pos n)) in
    let f = falses-unnum n x fits in
    omega (arith, f, ap falses first, ap falses word, ap falses low)

-- a word that is masked has the true items of its lowest items
pub falses-masked : (items low : List Bool) (k : ℕ) → items ≡ low ++ replicate k false → falses items ≡ falses low + k
falses-masked items low k e = omega (arith, ap falses e, falses-append low (replicate k false), falses-all_false k)

pub ruleset counts = (falses-le-length)

-- laws of counting, for callers
pub ruleset counting = (falses-le-length, trues-falses, falses-append, falses-parts, falses-none, falses-all_true, falses-all_false, falses-masked)
