-- Offsets and lengths written one by one.
use Rattle.std.proofs.Common.{◌≡◌, ℕ, ◌+◌, ◌-◌, ◌<◌, ◌≤◌, List, map, length, sum, take, drop, get_or, set, ap, sym, ◌∙◌, arith, add-one, ℤ, pos, ◌≤ℤ◌, ◌-ℤ◌}
use Rattle.std.proofs.lemmas.Int.{ints}
use Rattle.std.proofs.lemmas.List.{ext_get_or, get_or-map, length-map, map-set, length-take-le, length-drop}
use Rattle.arrow2_offset.specs.Offsets.{AreOffsets, lengths_of, offset_at, last_of, offsets_list, start_of}
use Rattle.arrow2_model.specs.Lists.{part}
use Rattle.arrow2_offset.proofs.OffsetLists.{get_or-offsets, get_or-offsets_list, length-lengths_of, length-running_sums, part_spells}
use Rattle.arrow2_model.proofs.Parts.{get_or-part}
use Rattle.arrow2_offset.proofs.Appending.{value_at}
use Rattle.arrow2_offset.proofs.ItemWrites.{one_more}
use Rattle.arrow2_offset.proofs.NestedLists.{sum-part}
use Rattle.arrow2_offset.proofs.Growing.{sum-take-le, sum-take-next}

-- ---- one item more is written, of the values that the items stand for

-- at each index below i is the number that f has, and an item of value f i is at i
pub one_more_value : {X : Type 0} (value : X → ℤ) (xs : List X) (f : ℕ → ℤ) (i : ℕ) (x : X) → i < length xs → value x ≡ f i → ((k : ℕ) → k < i → get_or (map value xs) k (pos 0) ≡ f k) → (k : ℕ) → k < i + 1 → get_or (map value (set xs i x)) k (pos 0) ≡ f k
one_more_value value xs f i x l is done k h =
    let m = length-map xs value in
    ap (λ ys. get_or ys k (pos 0)) (map-set value xs i x) ∙ one_more (map value xs) f (pos 0) i (value x) (omega arith) is done k h

-- ---- the numbers written in the end

-- the lengths, where each of them is at its index
pub all_lengths : (xs : List ℤ) (written : List ℕ) → AreOffsets xs → length xs ≡ length written + 1 → ((k : ℕ) → k < length written → get_or written k 0 ≡ get_or (lengths_of xs) k 0) → written ≡ lengths_of xs
all_lengths xs written are l done =
    let m = length-lengths_of xs are in
    ext_get_or 0 written (lengths_of xs) (omega arith) done

-- the offsets, where each of them is at its index
pub all_offsets : (xs : List ℤ) (start : ℕ) (ns : List ℕ) → length xs ≡ length ns + 1 → ((k : ℕ) → k < length xs → get_or xs k (pos 0) ≡ pos (offset_at start ns k)) → xs ≡ map pos (offsets_list start ns)
all_offsets xs start ns l done =
    let n = length-running_sums start ns in
    let m = length-map (offsets_list start ns) pos in
    ext_get_or (pos 0) xs (map pos (offsets_list start ns)) (omega arith) (
    λ k h. done k h ∙ sym (get_or-map pos (offsets_list start ns) k 0 (pos 0) (omega arith) ∙ ap pos (get_or-offsets_list start ns k (omega arith))))

-- ---- how far one offset is from another

gap : (a g d : ℕ) → pos d ≡ pos (a + g) -ℤ pos a → d ≡ g
gap a g d e = omega (arith, ints)

module _ {X : Type 0} (value : X → ℤ) where
  -- from an offset to the next one it is a length
  pub between : (items : List X) (x y : X) (k : ℕ) → AreOffsets (map value items) → k + 1 < length items → x ≡ get_or items k x → y ≡ get_or items (k + 1) y → (value x ≤ℤ value y) × ((d : ℕ) → pos d ≡ value y -ℤ value x → d ≡ get_or (lengths_of (map value items)) k 0)
  between items x y k are l is-x is-y =
      let s : ℕ = start_of (map value items) in
      let ns : List ℕ = lengths_of (map value items) in
      let p : value x ≡ pos (offset_at s ns k) = value_at value items x k are (omega arith) is-x in
      let q : value y ≡ pos (offset_at s ns (k + 1)) = value_at value items y (k + 1) are l is-y in
      let t : sum (take (k + 1) ns) ≡ sum (take k ns) + get_or ns k 0 = rw add-one (sum-take-next ns k) in
      let up : offset_at s ns (k + 1) ≡ offset_at s ns k + get_or ns k 0 = omega (arith, t) in (
        rw (p, q, up) (omega (arith, ints)),
        λ d e. gap (offset_at s ns k) (get_or ns k 0) d (e ∙ (ap (λ z. z -ℤ value x) (q ∙ ap pos up) ∙ ap (λ z. pos (offset_at s ns k + get_or ns k 0) -ℤ z) p)),
      )

  -- from the first of some offsets to another of them it is the sum of the lengths between them
  pub from_first : (items : List X) (x y : X) (from k n : ℕ) → AreOffsets (map value items) → k < n → from + n ≤ length items → x ≡ get_or items from x → y ≡ get_or items (from + k) y → (value x ≤ℤ value y) × ((d : ℕ) → pos d ≡ value y -ℤ value x → d ≡ offset_at 0 (part (lengths_of (map value items)) from (n - 1)) k)
  from_first items x y from k n are l within is-x is-y =
      let xs : List ℤ = map value items in
      let m = length-map items value in
      let some = part_spells xs from n are (omega arith) (omega arith) in
      let s : ℕ = offset_at (start_of xs) (lengths_of xs) from in
      let ns : List ℕ = part (lengths_of xs) from (n - 1) in
      let cut : length (part xs from n) ≡ n = let d = length-drop from xs in length-take-le n (drop from xs) (omega arith) in
      let at : (j : ℕ) → j < n → get_or xs (from + j) (pos 0) ≡ pos (offset_at s ns j) = λ j h.
      sym (get_or-part xs from n j (pos 0) h) ∙ (get_or-offsets (part xs from n) j some.are (omega (arith, cut)) ∙ (ap (λ a. pos (offset_at a (lengths_of (part xs from n)) j)) some.from ∙ ap (λ ms. pos (offset_at s ms j)) some.by)) in
      let p : value x ≡ pos (offset_at s ns 0) = ap value is-x ∙ (sym (get_or-map value items from x (pos 0) (omega arith)) ∙ (ap (λ j. get_or xs j (pos 0)) (omega arith) ∙ at 0 (omega arith))) in
      let q : value y ≡ pos (offset_at s ns k) = ap value is-y ∙ (sym (get_or-map value items (from + k) y (pos 0) (omega arith)) ∙ at k l) in
      let none : offset_at s ns 0 ≡ s = omega arith in
      let all : offset_at s ns k ≡ s + offset_at 0 ns k = omega arith in (
        rw (p, q, none, all) (omega (arith, ints)),
        λ d e. gap s (offset_at 0 ns k) d (e ∙ (ap (λ z. z -ℤ value x) (q ∙ ap pos all) ∙ ap (λ z. pos (s + offset_at 0 ns k) -ℤ z) (p ∙ ap pos none))),
      )

-- the distance between two offsets is at most the last one
pub within_last : (xs : List ℤ) (from n k : ℕ) → offset_at 0 (part (lengths_of xs) from n) k ≤ last_of xs
within_last xs from n k =
    let ns : List ℕ = lengths_of xs in
    let a = sum-take-le (part ns from n) k in
    let b = sum-part ns from n in
    omega arith

-- a running sum is at most the last one
pub sum_up_to : (start : ℕ) (ns : List ℕ) (k : ℕ) → offset_at start ns k ≤ start + sum ns
sum_up_to start ns k = let h = sum-take-le ns k in omega arith

-- the next running sum
pub next_sum : (start : ℕ) (ns : List ℕ) (k : ℕ) → offset_at start ns (k + 1) ≡ offset_at start ns k + get_or ns k 0
next_sum start ns k = let t : sum (take (k + 1) ns) ≡ sum (take k ns) + get_or ns k 0 = rw add-one (sum-take-next ns k) in omega (arith, t)
