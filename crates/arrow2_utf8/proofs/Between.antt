-- A text that is cut between its characters is cut into texts.
use Rattle.std.proofs.Common.{◌≡◌, ℕ, zero, suc, ◌+◌, ◌-◌, ◌<◌, ◌≤◌, List, [], ◌∷◌, All, length, sum, take, drop, get_or, ap, ◌∙◌, arith, add-one, IsUtf8, IsCharBoundary, IsAscii, take-add}
use Rattle.std.proofs.lemmas.List.{take-take, drop-take, length-map, length-take, length-drop}
use Rattle.std.proofs.lemmas.List.Elements.{All-from_get_or, All-head, All-tail}
use Rattle.std.proofs.lemmas.Str.{IsUtf8-between, IsUtf8-from_ascii, IsUtf8-nil, IsUtf8-append, IsCharBoundary-from_ascii, IsCharBoundary-start, IsCharBoundary-from_rest}
use Rattle.arrow2_offset.specs.NestedLists.{cut}
use Rattle.arrow2_model.specs.Lists.{part}
use Rattle.arrow2_offset.proofs.Growing.{sum-take-le, sum-take-next}
use Rattle.arrow2_offset.proofs.NestedLists.{at-cut, length-cut}
use Rattle.arrow2_offset.proofs.OffsetLists.{length-lengths_of, sum-cons}

-- a part of a front is a part of the whole
part-front : {X : Type 0} (xs : List X) (s a n : ℕ) → a + n ≤ s → take n (drop a (take s xs)) ≡ part xs a n
part-front xs s a n h =
    let rest : s ≡ a + (s - a) = omega arith in
    ap (λ k. take n (drop a (take k xs))) rest ∙ (ap (take n) (drop-take a (s - a) xs) ∙ take-take n (s - a) (drop a xs) (omega arith))

pub all-texts : (xs : List ℕ) (ns : List ℕ) → IsUtf8 (take (sum ns) xs) → ((k : ℕ) → k ≤ length ns → IsCharBoundary (take (sum ns) xs) (sum (take k ns))) → All IsUtf8 (cut xs ns)
all-texts xs ns text between =
    All-from_get_or IsUtf8 (cut xs ns) [] (λ k h.
    let l = length-cut xs ns in
    let inside : k < length ns = omega (arith, l, h) in
    let next = sum-take-next ns k in
    let most = sum-take-le ns (suc k) in
    let size : sum (take (suc k) ns) - sum (take k ns) ≡ get_or ns k 0 = omega (arith, next) in
    let part-is = part-front xs (sum ns) (sum (take k ns)) (get_or ns k 0) (omega (arith, next, most)) in
    let zero-on : 0 + sum (take k ns) ≡ sum (take k ns) = omega arith in
    let here = IsUtf8-between (take (sum ns) xs) (sum (take k ns)) (sum (take (suc k) ns)) text (omega (arith, next)) (between k (omega (arith, inside))) (between (suc k) (omega (arith, inside))) in
    rw (at-cut xs 0 ns k inside, zero-on, ← part-is, ← size) here)

-- and back: texts one after the other are one text
pub whole-text : (xs : List ℕ) (ns : List ℕ) → All IsUtf8 (cut xs ns) → IsUtf8 (take (sum ns) xs)
whole-text xs [] all = IsUtf8-nil
whole-text xs (n ∷ ns) all =
    rw (sum-cons n ns, take-add n (sum ns) xs) (IsUtf8-append (take n xs) (take (sum ns) (drop n xs)) (All-head IsUtf8 (take n xs) (cut (drop n xs) ns) all) (whole-text (drop n xs) ns (All-tail IsUtf8 (take n xs) (cut (drop n xs) ns) all)))

-- which may be cut where each of them begins
pub text-boundary : (xs : List ℕ) (ns : List ℕ) (k : ℕ) → sum ns ≤ length xs → All IsUtf8 (cut xs ns) → IsCharBoundary (take (sum ns) xs) (sum (take k ns))
text-boundary xs ns zero h all = IsCharBoundary-start (take (sum ns) xs) (whole-text xs ns all)
text-boundary xs [] (suc k) h all = IsCharBoundary-start (take (sum []) xs) (whole-text xs [] all)
text-boundary xs (n ∷ ns) (suc k) h all =
    let s = sum-cons n ns in
    let l = length-take (n + sum ns) xs in
    let r = length-drop n xs in
    let rest = text-boundary (drop n xs) ns k (omega (arith, h, s, r)) (All-tail IsUtf8 (take n xs) (cut (drop n xs) ns) all) in
    rw (sum-cons n ns, sum-cons n (take k ns)) (IsCharBoundary-from_rest (take (n + sum ns) xs) n (sum (take k ns)) (omega (arith, h, s, l)) (rw (drop-take n (sum ns) xs) rest))

-- the offset after one slot more
pub sum-take-step : (ns : List ℕ) (k : ℕ) → sum (take (k + 1) ns) ≡ sum (take k ns) + get_or ns k 0
sum-take-step ns k = rw add-one (sum-take-next ns k)

pub ruleset positions = (length-lengths_of, length-map, sum-take-le, sum-take-step)

-- the same of the bytes from the first offset, a, to the last, b
module _ (xs : List ℕ) (ns : List ℕ) (start a b : ℕ) (from : a ≡ start) (to : b ≡ start + sum ns) where
  spanned : take (b - a) (drop a xs) ≡ take (sum ns) (drop start xs)
  spanned =
      let size : b - a ≡ sum ns = omega arith in
      ap (λ m. take m (drop a xs)) size ∙ ap (λ m. take (sum ns) (drop m xs)) from

  pub texts-between : (n : ℕ) → length ns < n → IsUtf8 (take (b - a) (drop a xs)) → ((k : ℕ) → k < n → IsCharBoundary (take (b - a) (drop a xs)) (sum (take k ns))) → All IsUtf8 (cut (drop start xs) ns)
  texts-between n many text between = all-texts (drop start xs) ns (rw spanned at text) (λ k h. rw spanned at (between k (omega arith)))

  pub ascii-between : b ≤ length xs → IsAscii (take (b - a) (drop a xs)) → All IsUtf8 (cut (drop start xs) ns)
  ascii-between inside ascii =
      let text = take (b - a) (drop a xs) in
      let taken = length-take (b - a) (drop a xs) in
      let rest = length-drop a xs in
      texts-between (suc (length ns)) (omega arith) (IsUtf8-from_ascii text ascii)
      (λ k h. let most = sum-take-le ns k in IsCharBoundary-from_ascii text (sum (take k ns)) ascii (omega (arith, taken, rest, most)))

  pub text-from-texts : All IsUtf8 (cut (drop start xs) ns) → IsUtf8 (take (b - a) (drop a xs))
  text-from-texts all = rw spanned (whole-text (drop start xs) ns all)

  pub between-from-texts : b ≤ length xs → All IsUtf8 (cut (drop start xs) ns) → (k : ℕ) → IsCharBoundary (take (b - a) (drop a xs)) (sum (take k ns))
  between-from-texts inside all k = rw spanned (text-boundary (drop start xs) ns k (let r = length-drop start xs in omega (arith, r)) all)
