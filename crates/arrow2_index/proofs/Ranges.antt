-- Steps of an iterator over a range of whole numbers.
use Rattle.std.proofs.Common.{◌≡◌, ℕ, zero, suc, ◌+◌, ◌-◌, List, [], ◌∷◌, map, length, refl, ap, sym, ◌∙◌, arith, ℤ, pos, negsuc, ◌+ℤ◌, ◌-ℤ◌, ◌<ℤ◌, ◌≤ℤ◌}
use Rattle.std.specs.Int.{int_gap}
use Rattle.std.specs.List.{range_with_len}
use Rattle.std.proofs.lemmas.Int.{ints}
use Rattle.std.proofs.lemmas.List.FromFn.{length-map-range_with_len}
use Rattle.arrow2_index.specs.Ranges.{integers}

gap_is : (a b : ℤ) (n : ℕ) → pos n ≡ b -ℤ a → int_gap a b ≡ n
gap_is (pos a) (pos b) n e = omega (arith, ints)
gap_is (pos a) (negsuc b) n e = omega (arith, ints)
gap_is (negsuc a) (pos b) n e = omega (arith, ints)
gap_is (negsuc a) (negsuc b) n e = omega (arith, ints)

pub gap_pos : (a b : ℤ) → a ≤ℤ b → pos (int_gap a b) ≡ b -ℤ a
gap_pos (pos a) (pos b) h = omega (arith, ints)
gap_pos (pos a) (negsuc b) h = omega (arith, ints)
gap_pos (negsuc a) (pos b) h = omega (arith, ints)
gap_pos (negsuc a) (negsuc b) h = omega (arith, ints)

gap_first : (a b : ℤ) → a <ℤ b → int_gap a b ≡ suc (int_gap (a +ℤ pos 1) b)
gap_first a b h = let m = gap_pos (a +ℤ pos 1) b (omega (arith, ints)) in gap_is a b (suc (int_gap (a +ℤ pos 1) b)) (omega (arith, ints))

moved : (a c : ℤ) (j k n : ℕ) → c ≡ a +ℤ pos 1 → j ≡ suc k → map (λ i. a +ℤ pos i) (range_with_len j n) ≡ map (λ i. c +ℤ pos i) (range_with_len k n)
moved a c j k zero e h = refl
moved a c j k (suc n) e h =
    let first : a +ℤ pos j ≡ c +ℤ pos k = omega (arith, ints) in
    rw (first, moved a c (j + 1) (k + 1) n e (omega arith)) refl

-- nothing is left
pub integers-none : (a b : ℤ) (n : ℕ) → pos n ≡ b -ℤ a → n ≡ 0 → integers a b ≡ []
unfolding integers
integers-none a b n e z = rw (gap_is a b n e, z) refl

-- the first and those after it
pub integers-first : (a b c : ℤ) → a <ℤ b → c ≡ a +ℤ pos 1 → integers a b ≡ a ∷ integers c b
unfolding integers
integers-first a b c h e =
    let gap : int_gap a b ≡ suc (int_gap c b) = gap_first a b h ∙ ap (λ (x : ℤ). suc (int_gap x b)) (sym e) in
    let here : a +ℤ pos 0 ≡ a = omega (arith, ints) in
    rw (gap, here, moved a c 1 0 (int_gap c b) e refl) refl

pub length-integers : (a b : ℤ) (n : ℕ) → pos n ≡ b -ℤ a → length (integers a b) ≡ n
unfolding integers
length-integers a b n e = length-map-range_with_len (λ k. a +ℤ pos k) 0 (int_gap a b) ∙ gap_is a b n e

-- ---- in the form of the code

pub how_many : (a b : ℤ) (n : ℕ) (v : List ℤ) → pos n ≡ b -ℤ a → integers a b ≡ v → length v ≡ n
how_many a b n v e w = ap length (sym w) ∙ length-integers a b n e

pub ruleset ranges = (integers-none, integers-first, length-integers)
