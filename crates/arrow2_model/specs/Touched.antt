-- The number of bytes that are read to count bits, for one slice and for many cuts together.
use Rattle.std.specs.Prelude.{◌≡◌, ◌<◌, ◌≤◌, ℕ, zero, suc, ◌+◌, ◌-◌, ◌*◌, ◌/◌, ◌==◌, List, if◌then◌else◌, nat_lt, sum_by}

-- the number of bytes that hold n bits from bit o on
unfoldable pub touched : ℕ → ℕ → ℕ
touched o zero = 0
touched o (suc n) = (o + n) / 8 - o / 8 + 1

-- byte j holds one of the n bits from bit o on
abbrev pub HoldsBit : ℕ → ℕ → ℕ → Type 0
HoldsBit o n j = (k : ℕ) × (o ≤ k) × (k < o + n) × (k / 8 ≡ j)

-- the number of bytes that a slice reads to count its false items, where the number of false items of the whole is
-- known. The whole has len items, which begin at bit o; the slice has n items, from item a of the whole on. Where n is
-- len, it reads none; where n is below half of len, rounded down, it reads the bytes that hold the slice; else it reads
-- the bytes that hold the items before the slice, and the bytes that hold the items after it.
unfoldable pub slice_reads : ℕ → ℕ → ℕ → ℕ → ℕ
slice_reads o len a n =
    if n == len then 0 else if nat_lt n (len / 2) then touched (o + a) n else touched o a + touched (o + a + n) (len - a - n)

-- the number of bytes that both slices read together, where n items from bit o on are cut in two at item i
unfoldable pub cut_reads : ℕ → ℕ → ℕ → ℕ
cut_reads o n i = slice_reads o n 0 i + slice_reads o n i (n - i)

-- how often n is halved before it is below 2, but no more than `most` times
unfoldable pub halvings : ℕ → ℕ → ℕ
halvings zero n = 0
halvings (suc most) n = if nat_lt n 2 then 0 else suc (halvings most (n / 2))

-- the logarithm of n to the base 2, rounded down: the greatest e with 2 ^ e at most n, and 0 for 0
unfoldable pub lg : ℕ → ℕ
lg n = halvings n n

-- the potential that pays for the reads of n items that are cut again and again, in eighths of a byte; each cut may
-- read up to 30 eighths of a byte more than the potential falls by
abbrev pub cut_budget : ℕ → ℕ
cut_budget n = 2 * (n * lg n)

-- the sum of the potentials of pieces of these lengths
abbrev pub total_cut_budget : List ℕ → ℕ
total_cut_budget lens = sum_by cut_budget lens
