-- Sums of lists of numbers, and their range.
use Rattle.std.proofs.Common.{◌≡◌, ℕ, ◌+◌, ◌-◌, ◌*◌, ◌^◌, ◌<◌, ◌≤◌, List, [], ◌∷◌, ◌++◌, length, get_or, refl, ap, sym, subst, ◌∙◌, arith, pos, ◌+ℤ◌, ◌≤ℤ◌, Option, Some, None, ℤ, negsuc, FitsSigned, flat_map}
use Rattle.std.specs.Int.{w128}
use Rattle.std.proofs.lemmas.Int.{ints}
use Rattle.std.proofs.Math.IntN.{+ℤ_idl, +ℤ_idr, +ℤ_assoc}
use Rattle.arrow2_model.specs.Lists.{part}
use Rattle.arrow2_walks.specs.Selections.{non_null_values}
use Rattle.arrow2_numeric.specs.Aggregates.{sum_of, sum_of_non_null, IsInSumRange}
use Rattle.arrow2_numeric.proofs.Selecting.{one-at}

module _ {X : Type 0} (f : X → ℤ) where
  pub sum-append : (xs ys : List X) → sum_of f (xs ++ ys) ≡ sum_of f xs +ℤ sum_of f ys
  sum-append [] ys = sym (+ℤ_idl (sum_of f ys))
  sum-append (x ∷ xs) ys = ap (λ s. f x +ℤ s) (sum-append xs ys) ∙ sym (+ℤ_assoc (f x) (sum_of f xs) (sum_of f ys))

  -- of what a position cuts out, and of what other positions do
  pub sum-position : (xs : List X) (k : ℕ) (ks positions : List ℕ) (x : X) → positions ≡ k ∷ ks → k < length xs → x ≡ get_or xs k x
      → (sum_of f (flat_map (λ j. part xs j 1) positions) ≡ f x +ℤ sum_of f (flat_map (λ j. part xs j 1) ks)) × (length (flat_map (λ j. part xs j 1) positions) ≡ 1 + length (flat_map (λ j. part xs j 1) ks))
  sum-position xs k ks positions x is less at =
      let cut : flat_map (λ j. part xs j 1) positions ≡ x ∷ flat_map (λ j. part xs j 1) ks = ap (λ l. flat_map (λ j. part xs j 1) l) is
      ∙ ap (λ l. l ++ flat_map (λ j. part xs j 1) ks) (one-at xs k x less ∙ ap (λ v. v ∷ []) (sym at)) in
      let longer : length (flat_map (λ j. part xs j 1) positions) ≡ 1 + length (flat_map (λ j. part xs j 1) ks) = omega (arith, ap length cut) in
      (ap (sum_of f) cut, longer)

  -- where no item is null
  pub sum-non_null : (items : List (Option X)) → sum_of f (non_null_values items) ≡ sum_of_non_null f items
  sum-non_null [] = refl
  sum-non_null (None ∷ items) = sum-non_null items
  sum-non_null (Some x ∷ items) = ap (λ s. f x +ℤ s) (sum-non_null items)

-- the range of a sum of no numbers, of one, and of both
pub range-start : (n : ℕ) → IsInSumRange n (pos 0)
range-start n =
    let low : pos 0 ≤ℤ (pos 0 +ℤ pos (n * 2 ^ 63)) = omega (arith, ints) in
    let high : pos 0 ≤ℤ pos (n * (2 ^ 64 - 1)) = omega (arith, ints) in
    record { low = low; high = high }

pub range-one : (a : ℤ) → negsuc (2 ^ 63 - 1) ≤ℤ a → a ≤ℤ pos (2 ^ 64 - 1) → IsInSumRange 1 a
range-one a above below =
    let low : pos 0 ≤ℤ (a +ℤ pos (1 * 2 ^ 63)) = omega (arith, ints, above) in
    let high : a ≤ℤ pos (1 * (2 ^ 64 - 1)) = omega (arith, ints, below) in
    record { low = low; high = high }

pub range-both : (m n k : ℕ) (a b : ℤ) → IsInSumRange m a → IsInSumRange n b → k ≡ m + n → IsInSumRange k (a +ℤ b)
range-both m n k a b first second is =
    let low : pos 0 ≤ℤ ((a +ℤ b) +ℤ pos (k * 2 ^ 63)) = omega (arith, ints, first.low, second.low, is) in
    let high : (a +ℤ b) ≤ℤ pos (k * (2 ^ 64 - 1)) = omega (arith, ints, first.high, second.high, is) in
    record { low = low; high = high }

-- of the sum of a block more, where `old` values were left before and `left` are after it
pub range-step : (all old block left : ℕ) (a b : ℤ) → IsInSumRange (all - old) a → IsInSumRange block b → old ≡ block + left → old ≤ all → IsInSumRange (all - left) (a +ℤ b)
range-step all old block left a b first second is less = range-both (all - old) block (all - left) a b first second (omega (arith, is, less))

pub range-as : (n : ℕ) (a b : ℤ) → IsInSumRange n a → b ≡ a → IsInSumRange n b
range-as n a b range is = subst (λ z. IsInSumRange n z) (sym is) range

-- such a sum fits 128 bits
pub range-fits : (n : ℕ) (a : ℤ) → IsInSumRange n a → n < 2 ^ 63 → FitsSigned w128 a
range-fits n a range few = omega (arith, ints, range.low, range.high, few)

pub ruleset sums = (+ℤ_idr)
