-- Results of a function as items: each of them determines one item of the list.
use Rattle.std.proofs.Common.{◌≡◌, ℕ, ◌<◌, List, Bool, false, map, length, get_or, ap, sym, ◌∙◌, arith, zero-add, Result, Ok, Err, IfOk, Bor}
use Rattle.std.specs.List.{range_with_len}
use Rattle.std.specs.Simd.Lanes.{zip2}
use Rattle.std.proofs.lemmas.List.{ext_get_or, get_or-map, length-map}
use Rattle.std.proofs.lemmas.List.FromFn.{length-map-range_with_len, get_or-map-range_with_len}
use Rattle.std.proofs.lemmas.Simd.{length-zip2, get_or-zip2}
use Rattle.arrow2_bitmap.specs.Predicates.{ReturnsBelow, ReturnsOnEach, ReturnsOnPairs, IsResultAt, IsPairResultAt}

-- the consequence of two facts on a value
pub if-both : {V E : Type 0} {P Q R : V → Type 0} (r : Result V E) → ((v : V) → P v → Q v → R v) → IfOk r P → IfOk r Q → IfOk r R
if-both (Ok v) gives p q = gives v p q
if-both (Err e) gives p q = tt

-- of numbers
pub stated-below : (items : List Bool) (n : ℕ) (returns : ℕ → Bool → Type 0) (test : ℕ → Bool) → length items ≡ n → ((k : ℕ) → k < n → returns k (get_or items k false)) → ReturnsBelow n returns test → items ≡ map test (range_with_len 0 n)
stated-below items n returns test size given states =
    let l = length-map-range_with_len test 0 n in
    ext_get_or false items (map test (range_with_len 0 n)) (size ∙ sym l) (λ k h.
    let less : k < n = omega (arith, h, size) in
    states k (get_or items k false) less (given k less) ∙ sym (get_or-map-range_with_len test 0 n k k false less (zero-add k)))

module _ {X : Type 0} where
  -- of the items of a list, by reference
  pub stated-each : (xs : List X) (items : List Bool) (returns : Bor X → Bool → Type 0) (test : X → Bool) → length items ≡ length xs
      → ((k : ℕ) → k < length xs → IsResultAt xs returns k (get_or items k false)) → ReturnsOnEach xs returns test → items ≡ map test xs
  stated-each xs items returns test size given states =
      let l = length-map xs test in
      ext_get_or false items (map test xs) (size ∙ sym l) (λ k h.
      let less : k < length xs = omega (arith, h, size) in
      let one = given k less in
      states k one.item (get_or items k false) less one.is_item one.returned ∙ (ap test (sym one.is_item) ∙ sym (get_or-map test xs k one.item.now false less)))

-- of the items of two lists, index by index
module _ {X Y : Type 0} where
  pub stated-pairs : (xs : List X) (ys : List Y) (items : List Bool) (returns : Bor X → Bor Y → Bool → Type 0) (test : X → Y → Bool) → length xs ≡ length ys → length items ≡ length xs
      → ((k : ℕ) → k < length xs → IsPairResultAt xs ys returns k (get_or items k false)) → ReturnsOnPairs xs ys returns test → items ≡ zip2 test xs ys
  stated-pairs xs ys items returns test same_lengths size given states =
      let l = length-zip2 test xs ys same_lengths in
      ext_get_or false items (zip2 test xs ys) (size ∙ sym l) (λ k h.
      let less : k < length xs = omega (arith, h, size) in
      let more : k < length ys = omega (arith, less, same_lengths) in
      let one = given k less in
      states k one.left one.right (get_or items k false) less one.is_left one.is_right one.returned
      ∙ (ap (λ x. test x one.right.now) (sym one.is_left)
      ∙ (ap (test (get_or xs k one.left.now)) (sym one.is_right) ∙ sym (get_or-zip2 test xs ys k one.left.now one.right.now false less more))))
