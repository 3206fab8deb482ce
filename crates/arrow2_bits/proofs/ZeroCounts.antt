-- Counts of bits that are not set, from their pieces, and the bytes that they read.
use Rattle.std.proofs.Common.{◌≡◌, ℕ, zero, suc, ◌+◌, ◌-◌, ◌*◌, ◌/◌, ◌%◌, ◌^◌, ◌<◌, ◌≤◌, List, length, get_or, refl, ap, sym, ◌∙◌, arith, count_ones}
use Rattle.std.proofs.lemmas.Nat.{one_shl}
use Rattle.arrow2_model.specs.Lists.{bits, part, falses}
use Rattle.arrow2_model.specs.Touched.{touched}
use Rattle.arrow2_model.proofs.Bytes.{part-bits, part-bits-part}
use Rattle.arrow2_model.proofs.Counts.{falses-append, falses-byte_part, falses-part_three}
use Rattle.arrow2_model.proofs.Parts.{length-part, part-add}
use Rattle.arrow2_model.proofs.Touched.{touched-none, touched-some}

-- ---- counts

-- some bits of a byte, shifted down and masked
pub byte_zeros : (bytes fetched : List ℕ) (at s n y : ℕ) → at < length bytes → s + n ≤ 8 → fetched ≡ part bytes at 1 → y ≡ get_or fetched 0 0 → falses (part (bits bytes) (8 * at + s) n) + count_ones (y / 2 ^ s % (1 * 2 ^ n % 4294967296)) ≡ n
byte_zeros bytes fetched at s n y inside within is first =
    let mask : 1 * 2 ^ n % 2 ^ 32 ≡ 2 ^ n = one_shl n 32 (omega arith) in
    let l = length-part bytes at 1 (omega arith) in
    let here = part-bits-part bytes at 1 s n (8 * at + s) (omega arith) (omega arith) refl in
    let one = falses-byte_part (part bytes at 1) s n (get_or fetched 0 0 / 2 ^ s % 2 ^ n) (omega (arith, l)) within (ap (λ (b : List ℕ). get_or b 0 0 / 2 ^ s % 2 ^ n) is) in
    rw (mask, first, ← here) one

-- a word that was fetched
pub ones_fetched : (bytes fetched : List ℕ) (at k ones : ℕ) → at + k ≤ length bytes → fetched ≡ part bytes at k → ones + falses (bits fetched) ≡ 8 * k → ones + falses (part (bits bytes) (8 * at) (8 * k)) ≡ 8 * k
ones_fetched bytes fetched at k ones inside got counted =
    let same = ap falses (part-bits bytes at k inside ∙ ap bits (sym got)) in
    omega (arith, same, counted)

-- bytes in two parts; the second part is read later
pub ones_in_two : (bytes later : List ℕ) (first m n count a b : ℕ) → later ≡ bytes → count ≡ m + n → a + falses (part (bits bytes) (8 * first) (8 * m)) ≡ 8 * m → b + falses (part (bits later) (8 * (first + m)) (8 * n)) ≡ 8 * n
    → a + b + falses (part (bits bytes) (8 * first) (8 * count)) ≡ 8 * count
ones_in_two bytes later first m n count a b same e is-a is-b =
    let both : 8 * count ≡ 8 * m + 8 * n = omega (arith, e) in
    let at : 8 * first + 8 * m ≡ 8 * (first + m) = omega arith in
    let joined = ap falses (part-add (bits bytes) (8 * first) (8 * m) (8 * n)) ∙ falses-append (part (bits bytes) (8 * first) (8 * m)) (part (bits bytes) (8 * first + 8 * m) (8 * n)) in
    let second = ap (λ k. falses (part (bits bytes) k (8 * n))) at in
    let still = ap (λ (l : List ℕ). falses (part (bits l) (8 * (first + m)) (8 * n))) same in
    rw both (omega (arith, joined, second, still, is-a, is-b))

-- the next words
pub ones_with_words : (bytes : List ℕ) (first end k a b : ℕ) → first ≤ end → a + falses (part (bits bytes) (8 * first) (8 * (end - first))) ≡ 8 * (end - first) → b + falses (part (bits bytes) (8 * end) (8 * k)) ≡ 8 * k → a + b + falses (part (bits bytes) (8 * first) (8 * (end + k - first))) ≡ 8 * (end + k - first)
ones_with_words bytes first end k a b from is-a is-b =
    let at : first + (end - first) ≡ end = omega (arith, from) in
    ones_in_two bytes bytes first (end - first) k (end + k - first) a b refl (omega (arith, from)) is-a (rw at is-b)

-- a head of bits, whole bytes, and a tail of bits
pub zeros_in_three : (bytes : List ℕ) (first start len head whole count tail a b d : ℕ) → 8 * whole ≡ 8 * first + start + head → len ≡ head + (8 * count + tail)
    → a ≡ falses (part (bits bytes) (8 * first + start) head) → b ≡ falses (part (bits bytes) (8 * whole) (8 * count)) → d ≡ falses (part (bits bytes) (8 * (whole + count) + 0) tail) → a + b + d ≡ falses (part (bits bytes) (8 * first + start) len)
zeros_in_three bytes first start len head whole count tail a b d at e is-a is-b is-d =
    let three = falses-part_three (bits bytes) (8 * first + start) head (8 * count) tail len e in
    let mid = ap (λ k. falses (part (bits bytes) k (8 * count))) (sym at) in
    let end : 8 * first + start + head + 8 * count ≡ 8 * (whole + count) + 0 = omega arith in
    let last = ap (λ k. falses (part (bits bytes) k tail)) end in
    omega (arith, three, mid, last, is-a, is-b, is-d)

-- the middle, where a head and a tail are taken away
pub zeros_between : (bytes : List ℕ) (offset len start count unset a b : ℕ) → start + count ≤ len → unset ≡ falses (part (bits bytes) offset len) → a ≡ falses (part (bits bytes) offset start) → b ≡ falses (part (bits bytes) (offset + (start + count)) (len - (start + count)))
    → falses (part (bits bytes) (offset + start) count) + (a + b) ≡ unset
zeros_between bytes offset len start count unset a b h is is-a is-b =
    let three = falses-part_three (bits bytes) offset start count (len - (start + count)) len (omega arith) in
    let at : offset + (start + count) ≡ offset + start + count = omega arith in
    let last = ap (λ k. falses (part (bits bytes) k (len - (start + count)))) at in
    omega (arith, three, last, is, is-a, is-b)

-- ---- reads

touched_up : (o n : ℕ) → (n ≡ 0 → o % 8 ≡ 0) → touched o n ≡ (o + n + 7) / 8 - o / 8
touched_up o zero h = let z = touched-none o 0 refl in let a = h refl in omega (arith, z, a)
touched_up o (suc n) h = let s = touched-some o (suc n) (omega arith) in omega (arith, s)

-- some bits of one byte
pub touched_one : (at s n : ℕ) → 0 < n → s + n ≤ 8 → touched (8 * at + s) n ≡ 1
touched_one at s n some within = let t = touched-some (8 * at + s) n some in omega (arith, t)

-- a head of bits, whole bytes, and a tail of bits
pub touched_in_three : (first start len head whole count tail : ℕ) → start < 8 → head < 8 → tail < 8 → (head ≡ 0 → start ≡ 0) → 8 * whole ≡ 8 * first + start + head → len ≡ head + (8 * count + tail) → 0 < len
    → touched (8 * first + start) len ≡ touched (8 * first + start) head + count + touched (8 * (whole + count) + 0) tail
touched_in_three first start len head whole count tail s<8 h<8 t<8 none at e some =
    let a = touched_up (8 * first + start) len (λ z. absurd (omega (arith, z))) in
    let b = touched_up (8 * first + start) head (λ z. let n = none z in omega (arith, n)) in
    let d = touched_up (8 * (whole + count) + 0) tail (λ z. omega arith) in
    omega (arith, a, b, d)
