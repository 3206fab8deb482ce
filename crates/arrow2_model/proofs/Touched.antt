-- The reads of counts of bits: bounds, and the potential that pays for many cuts.
use Rattle.std.proofs.Common.{◌≡◌, ℕ, zero, suc, ◌+◌, ◌-◌, ◌*◌, ◌/◌, ◌%◌, ◌^◌, ◌<◌, ◌≤◌, ◌==◌, ◌↔◌, cond, refl, ap, sym, ◌∙◌, subst, inl, inr, arith, nat_lt, pow-suc, mul-le-mul_left, add-mul}
use Rattle.std.proofs.lemmas.Bool.{cases_lt, cond_both, cond-true, eq-eqb, eqb-true, ltb-true, ltb-false}
use Rattle.arrow2_model.specs.Touched.{touched, slice_reads, cut_reads, halvings, lg, cut_budget, HoldsBit}

-- ---- the bytes that hold bits

pub touched-none : (o n : ℕ) → n ≡ 0 → touched o n ≡ 0
unfolding touched
touched-none o n e = rw e refl

pub touched-some : (o n : ℕ) → 0 < n → touched o n ≡ (o + n - 1) / 8 - o / 8 + 1
unfolding touched
touched-some o zero h = grind arith
touched-some o (suc n) h = let e : o + suc n - 1 ≡ o + n = omega arith in rw e refl

-- k bytes further on
touched-moved : (o p k n : ℕ) → p ≡ 8 * k + o → touched p n ≡ touched o n
touched-moved o p k zero e = touched-none p 0 refl ∙ sym (touched-none o 0 refl)
touched-moved o p k (suc n) e = let s = touched-some o (suc n) (omega arith) in let t = touched-some p (suc n) (omega arith) in omega (arith, s, t, e)

-- up to seven bits more at either end
pub touched_le : (o n : ℕ) → 8 * touched o n ≤ n + 14
touched_le o zero = let z = touched-none o 0 refl in omega arith
touched_le o (suc n) = let s = touched-some o (suc n) (omega arith) in omega arith

touched_holds : (o n j : ℕ) → o / 8 ≤ j → j < o / 8 + touched o n → HoldsBit o n j
touched_holds o zero j h k = let z = touched-none o 0 refl in absurd (omega arith)
touched_holds o (suc n) j h k =
    let s = touched-some o (suc n) (omega arith) in
    elim (cases_lt (o / 8) j) [
      | inl l ↦ (8 * j, omega arith, omega arith, omega arith)
      | inr g ↦ (o, omega arith, omega arith, omega arith)
    ]

holds_touched : (o n j : ℕ) → HoldsBit o n j → (o / 8 ≤ j) × (j < o / 8 + touched o n)
holds_touched o zero j h = let low = h.1 in let high = h.2 in absurd (omega arith)
holds_touched o (suc n) j h =
    let s = touched-some o (suc n) (omega arith) in let low = h.1 in let high = h.2 in let at = h.3 in (omega arith, omega arith)

-- ---- the reads of one slice

pub slice_reads-all : (o len a n : ℕ) → n ≡ len → slice_reads o len a n ≡ 0
unfolding slice_reads
slice_reads-all o len a n e = cond-true (n == len) 0 (cond (nat_lt n (len / 2)) (touched (o + a) n) (touched o a + touched (o + a + n) (len - a - n))) (eq-eqb n len e)

pub slice_reads-short : (o len a n : ℕ) → (n ≡ len → ⊥) → n < len / 2 → slice_reads o len a n ≡ touched (o + a) n
unfolding slice_reads
slice_reads-short o len a n other h =
    cond_both (n == len) 0 (cond (nat_lt n (len / 2)) (touched (o + a) n) (touched o a + touched (o + a + n) (len - a - n))) (λ k. k ≡ touched (o + a) n) (λ e. absurd (other (eqb-true n len e))) (λ e.
    cond_both (nat_lt n (len / 2)) (touched (o + a) n) (touched o a + touched (o + a + n) (len - a - n)) (λ k. k ≡ touched (o + a) n) (λ l. refl) (λ g. let s = ltb-false n (len / 2) g in absurd (omega arith)))

pub slice_reads-long : (o len a n end left : ℕ) → (n ≡ len → ⊥) → len / 2 ≤ n → end ≡ a + n → left ≡ len - end → slice_reads o len a n ≡ touched o a + touched (o + end) left
unfolding slice_reads
slice_reads-long o len a n end left other h is-end is-left =
    let p : o + end ≡ o + a + n = omega arith in let q : left ≡ len - a - n = omega arith in
    rw (p, q) (cond_both (n == len) 0 (cond (nat_lt n (len / 2)) (touched (o + a) n) (touched o a + touched (o + a + n) (len - a - n))) (λ k. k ≡ touched o a + touched (o + a + n) (len - a - n)) (λ e. absurd (other (eqb-true n len e))) (λ e.
    cond_both (nat_lt n (len / 2)) (touched (o + a) n) (touched o a + touched (o + a + n) (len - a - n)) (λ k. k ≡ touched o a + touched (o + a + n) (len - a - n)) (λ l. let s = ltb-true n (len / 2) l in absurd (omega arith)) (λ g. refl)))

pub slice_reads_le : (o len a n : ℕ) → a + n ≤ len → slice_reads o len a n ≤ len / 16 + 4
unfolding slice_reads
slice_reads_le o len a n h =
    cond_both (n == len) 0 (cond (nat_lt n (len / 2)) (touched (o + a) n) (touched o a + touched (o + a + n) (len - a - n))) (λ k. k ≤ len / 16 + 4) (λ e. omega arith) (λ e.
    cond_both (nat_lt n (len / 2)) (touched (o + a) n) (touched o a + touched (o + a + n) (len - a - n)) (λ k. k ≤ len / 16 + 4)
    (λ l. let t = touched_le (o + a) n in let s = ltb-true n (len / 2) l in omega arith)
    (λ g. let t = touched_le o a in let u = touched_le (o + a + n) (len - a - n) in let s = ltb-false n (len / 2) g in omega arith))

-- it matters at which bit of a byte the items begin, and not in which byte
pub slice_reads-in_byte : (o len a n : ℕ) → slice_reads o len a n ≡ slice_reads (o % 8) len a n
unfolding slice_reads
slice_reads-in_byte o len a n =
    let own = touched-moved (o % 8 + a) (o + a) (o / 8) n (omega arith) in
    let head = touched-moved (o % 8) o (o / 8) a (omega arith) in
    let tail = touched-moved (o % 8 + a + n) (o + a + n) (o / 8) (len - a - n) (omega arith) in
    ap (λ (k : ℕ). cond (n == len) 0 (cond (nat_lt n (len / 2)) k (touched o a + touched (o + a + n) (len - a - n)))) own
    ∙ (ap (λ (k : ℕ). cond (n == len) 0 (cond (nat_lt n (len / 2)) (touched (o % 8 + a) n) (k + touched (o + a + n) (len - a - n)))) head
    ∙ ap (λ (k : ℕ). cond (n == len) 0 (cond (nat_lt n (len / 2)) (touched (o % 8 + a) n) (touched (o % 8) a + k))) tail)

front_le : (o n i m : ℕ) → i ≤ n → (i < n / 2 → i ≤ m) → (n / 2 ≤ i → n - i ≤ m) → 8 * slice_reads o n 0 i ≤ m + 14
unfolding slice_reads
front_le o n i m h short long =
    cond_both (i == n) 0 (cond (nat_lt i (n / 2)) (touched (o + 0) i) (touched o 0 + touched (o + 0 + i) (n - 0 - i))) (λ k. 8 * k ≤ m + 14) (λ e. omega arith) (λ e.
    cond_both (nat_lt i (n / 2)) (touched (o + 0) i) (touched o 0 + touched (o + 0 + i) (n - 0 - i)) (λ k. 8 * k ≤ m + 14)
    (λ l. let t = touched_le (o + 0) i in let s = short (ltb-true i (n / 2) l) in omega arith)
    (λ g. let t = touched_le (o + 0 + i) (n - 0 - i) in let z = touched-none o 0 refl in let s = long (ltb-false i (n / 2) g) in omega arith))

back_le : (o n i m : ℕ) → i ≤ n → (n - i < n / 2 → n - i ≤ m) → (n / 2 ≤ n - i → i ≤ m) → 8 * slice_reads o n i (n - i) ≤ m + 14
unfolding slice_reads
back_le o n i m h short long =
    cond_both ((n - i) == n) 0 (cond (nat_lt (n - i) (n / 2)) (touched (o + i) (n - i)) (touched o i + touched (o + i + (n - i)) (n - i - (n - i)))) (λ k. 8 * k ≤ m + 14) (λ e. omega arith) (λ e.
    cond_both (nat_lt (n - i) (n / 2)) (touched (o + i) (n - i)) (touched o i + touched (o + i + (n - i)) (n - i - (n - i))) (λ k. 8 * k ≤ m + 14)
    (λ l. let t = touched_le (o + i) (n - i) in let s = short (ltb-true (n - i) (n / 2) l) in omega arith)
    (λ g. let t = touched_le o i in let z = touched-none (o + i + (n - i)) (n - i - (n - i)) (omega arith) in let s = long (ltb-false (n - i) (n / 2) g) in omega arith))

-- ---- the logarithm

power_le : (most n : ℕ) → n ≤ most → 0 < n → 2 ^ halvings most n ≤ n
unfolding halvings
power_le zero n h p = omega arith
power_le (suc most) n h p =
    cond_both (nat_lt n 2) 0 (suc (halvings most (n / 2))) (λ k. 2 ^ k ≤ n) (λ e. omega arith) (λ e.
    let big : 2 ≤ n = ltb-false n 2 e in
    let step = pow-suc 2 (halvings most (n / 2)) in
    let half = power_le most (n / 2) (omega arith) (omega arith) in omega arith)

power_gt : (most n : ℕ) → n ≤ most → n < 2 * 2 ^ halvings most n
unfolding halvings
power_gt zero n h = omega arith
power_gt (suc most) n h =
    cond_both (nat_lt n 2) 0 (suc (halvings most (n / 2))) (λ k. n < 2 * 2 ^ k) (λ e. let small : n < 2 = ltb-true n 2 e in omega arith) (λ e.
    let big : 2 ≤ n = ltb-false n 2 e in
    let step = pow-suc 2 (halvings most (n / 2)) in
    let half = power_gt most (n / 2) (omega arith) in omega arith)

pub lg-power_le : (n : ℕ) → 0 < n → 2 ^ lg n ≤ n
unfolding lg
lg-power_le n p = power_le n n (omega arith) p

lg-power_gt : (n : ℕ) → n < 2 * 2 ^ lg n
unfolding lg
lg-power_gt n = power_gt n n (omega arith)

pub lg-none : lg 0 ≡ 0
unfolding lg halvings
lg-none = refl

power_rises : (a k : ℕ) → 2 ^ a ≤ 2 ^ (a + k)
power_rises a zero = let e : a + 0 ≡ a = omega arith in rw e (omega arith)
power_rises a (suc k) = let step = pow-suc 2 (a + k) in let rest = power_rises a k in let e : a + suc k ≡ suc (a + k) = omega arith in rw e (omega arith)

-- exponents are in the order of the powers
exponent_le : (a b : ℕ) → 2 ^ a < 2 * 2 ^ b → a ≤ b
exponent_le a b h = elim (cases_lt b a) [
  | inl l ↦
      let rise = power_rises (b + 1) (a - (b + 1)) in let e : (b + 1) + (a - (b + 1)) ≡ a = omega arith in let step = pow-suc 2 b in let f : b + 1 ≡ suc b = omega arith in
      let up : 2 ^ (b + 1) ≤ 2 ^ a = subst (λ (k : ℕ). 2 ^ (b + 1) ≤ 2 ^ k) e rise in let g : 2 ^ (b + 1) ≡ 2 ^ suc b = ap (λ (k : ℕ). 2 ^ k) f in absurd (omega arith)
  | inr g ↦ g
]

pub lg-greatest : (n e : ℕ) → 2 ^ e ≤ n → e ≤ lg n
lg-greatest n e h = let high = lg-power_gt n in exponent_le e (lg n) (omega arith)

lg-rises : (m n : ℕ) → 0 < m → m ≤ n → lg m ≤ lg n
lg-rises m n p h = let low = lg-power_le m p in lg-greatest n (lg m) (omega arith)

-- twice as much has one more
lg-doubles : (m n : ℕ) → 0 < m → 2 * m ≤ n → lg m + 1 ≤ lg n
lg-doubles m n p h =
    let low = lg-power_le m p in let step = pow-suc 2 (lg m) in let f : lg m + 1 ≡ suc (lg m) = omega arith in
    let g : 2 ^ (lg m + 1) ≡ 2 ^ suc (lg m) = ap (λ (k : ℕ). 2 ^ k) f in lg-greatest n (lg m + 1) (omega arith)

-- ---- many cuts

-- a and b items apart, a no more than b, have less to read than both together
apart_le : (a b : ℕ) → a ≤ b → cut_budget a + cut_budget b + 2 * a ≤ cut_budget (a + b)
apart_le zero b h = let e : zero + b ≡ b = omega arith in rw e (omega arith)
apart_le (suc k) b h =
    let a : ℕ = suc k in
    let up : lg a + 1 ≤ lg (a + b) = lg-doubles a (a + b) (omega arith) (omega arith) in
    let over : lg b ≤ lg (a + b) = lg-rises b (a + b) (omega arith) (omega arith) in
    let one : a * (lg a + 1) ≤ a * lg (a + b) = mul-le-mul_left a up in
    let two : b * lg b ≤ b * lg (a + b) = mul-le-mul_left b over in
    let apart : a * (lg a + 1) ≡ a * lg a + a = grind arith in
    let sum : (a + b) * lg (a + b) ≡ a * lg (a + b) + b * lg (a + b) = add-mul a b (lg (a + b)) in
    omega arith

pub cut_reads-is : (o n i : ℕ) → cut_reads o n i ≡ slice_reads o n 0 i + slice_reads o n i (n - i)
unfolding cut_reads
cut_reads-is o n i = refl

pub cut_reads-in_byte : (o n i : ℕ) → cut_reads o n i ≡ cut_reads (o % 8) n i
cut_reads-in_byte o n i =
    let first = slice_reads-in_byte o n 0 i in
    let second = slice_reads-in_byte o n i (n - i) in
    omega (arith, first, second, cut_reads-is o n i, cut_reads-is (o % 8) n i)

-- a cut reads at most the difference of `cut_budget` before and after it, and less than four bytes
pub cut_le : (o n i : ℕ) → i ≤ n → 8 * cut_reads o n i + cut_budget i + cut_budget (n - i) ≤ cut_budget n + 30
unfolding cut_reads
cut_le o n i h = elim (cases_lt (n - i) i) [
  | inl l ↦
      let front = front_le o n i (n - i) h (λ s. omega arith) (λ s. omega arith) in
      let back = back_le o n i (n - i + 1) h (λ s. omega arith) (λ s. omega arith) in
      let less = apart_le (n - i) i (omega arith) in let e : (n - i) + i ≡ n = omega arith in
      let less' : cut_budget (n - i) + cut_budget i + 2 * (n - i) ≤ cut_budget n = subst (λ (k : ℕ). cut_budget (n - i) + cut_budget i + 2 * (n - i) ≤ cut_budget k) e less in omega arith
  | inr g ↦
      let front = front_le o n i (i + 1) h (λ s. omega arith) (λ s. omega arith) in
      let back = back_le o n i i h (λ s. omega arith) (λ s. omega arith) in
      let less = apart_le i (n - i) g in let e : i + (n - i) ≡ n = omega arith in
      let less' : cut_budget i + cut_budget (n - i) + 2 * i ≤ cut_budget n = subst (λ (k : ℕ). cut_budget i + cut_budget (n - i) + 2 * i ≤ cut_budget k) e less in omega arith
]

pub touched_bytes : (o n j : ℕ) → (o / 8 ≤ j) × (j < o / 8 + touched o n) ↔ HoldsBit o n j
touched_bytes o n j = (λ h. touched_holds o n j h.0 h.1, holds_touched o n j)

pub ruleset reads = (slice_reads_le, slice_reads-in_byte, cut_reads-in_byte, lg-power_le, lg-greatest, lg-none, cut_le)
