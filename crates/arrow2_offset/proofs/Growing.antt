-- Vectors of offsets as their numbers: the results of growing and cutting.
use Rattle.std.proofs.Common.{◌≡◌, ℕ, zero, suc, ◌+◌, ◌-◌, ◌<◌, ◌≤◌, List, [], ◌∷◌, ◌++◌, map, length, sum, take, drop, get_or, replicate, Bool, false, ap, sym, ◌∙◌, refl, arith, add-one, ℤ, pos, ◌≤ℤ◌, ◌-ℤ◌, to_z, of_z}
use Rattle.std.specs.Int as integers
use Rattle.std.specs.Int.Signed.{lt_z}
use Rattle.std.proofs.lemmas.Int.{ints}
use Rattle.std.proofs.lemmas.List.{append-nil, length-map, length-replicate, map-append, take-map, take_all}
use Rattle.arrow2_model.specs.Lists.{part, BufferStorage, buffer_items, whole_buffer}
use Rattle.arrow2_offset.specs.Offsets.{running_sums, offsets_list, numbers_of, AreOffsets, AreOffsetsUpTo, start_of, lengths_of, offset_at, last_of}
use Rattle.arrow2_offset.proofs.OffsetLists.{Spells, spells, spelled, length-lengths_of, get_or-offsets, repeat_spells, take_spells, part_spells, map-replicate, sum-append, sum-cons}
use Rattle.arrow2_model.proofs.Parts.{part-map}
use Rattle.arrow2_offset.proofs.NestedLists.{sum-part}
use Rattle.arrow2_offset.proofs.Appending.{pushed as pushed_one, last_grown, same_naturals, value_at, value_last}

-- ---- sums

pub sum-take-le : (ns : List ℕ) (k : ℕ) → sum (take k ns) ≤ sum ns
sum-take-le ns zero = omega arith
sum-take-le [] (suc k) = omega arith
sum-take-le (n ∷ ns) (suc k) = omega (arith, sum-cons n (take k ns), sum-cons n ns, sum-take-le ns k)

pub sum-take-next : (ns : List ℕ) (k : ℕ) → sum (take (suc k) ns) ≡ sum (take k ns) + get_or ns k 0
sum-take-next [] zero = refl
sum-take-next [] (suc k) = refl
sum-take-next (n ∷ ns) zero = refl
sum-take-next (n ∷ ns) (suc k) = omega (arith, sum-cons n (take (suc k) ns), sum-cons n (take k ns), sum-take-next ns k)

sum-zeros : (k : ℕ) → sum (replicate k 0) ≡ 0
sum-zeros zero = refl
sum-zeros (suc k) = omega (arith, sum-cons 0 (replicate k 0), sum-zeros k)

-- ---- the offsets that a list spells

up_to : (max : ℕ) (xs : List ℤ) (start : ℕ) (ns : List ℕ) → Spells xs start ns → start + sum ns ≤ max → AreOffsetsUpTo max xs
up_to max xs start ns h l =
    let e : last_of xs ≡ start + sum ns = ap (λ k. k + sum (lengths_of xs)) h.from ∙ ap (λ ms. start + sum ms) h.by in
    (h.are, omega arith)

-- the list of a start and lengths
pub list_up_to : (max : ℕ) (xs : List ℤ) (start : ℕ) (ns : List ℕ) → xs ≡ map pos (offsets_list start ns) → start + sum ns ≤ max → AreOffsetsUpTo max xs
list_up_to max xs start ns e within = up_to max xs start ns (spells xs start ns e) within

tested : (n : ℕ) → n ≤ 9223372036854775807 → lt_z (to_z integers.w64 (of_z integers.w64 (pos 2147483647))) (to_z integers.w64 (of_z integers.w64 (pos n))) ≡ false → n ≤ 2147483647
tested n h t = grind (arith, ints)

-- a last offset that was tested against the greatest one of 32 bits
pub tested_last : (n : ℕ) (x y : ℤ) → x ≡ pos 2147483647 → y ≡ pos n → n ≤ 9223372036854775807 → lt_z (to_z integers.w64 (of_z integers.w64 x)) (to_z integers.w64 (of_z integers.w64 y)) ≡ false → n ≤ 2147483647
tested_last n x y e f h t =
    let below : ℤ → ℤ → Bool = λ a b. lt_z (to_z integers.w64 (of_z integers.w64 a)) (to_z integers.w64 (of_z integers.w64 b)) in
    tested n h (ap (λ z. below (pos 2147483647) z) (sym f) ∙ (ap (λ z. below z y) (sym e) ∙ t))

-- the list of a whole buffer of tested offsets
pub whole_of_list : (xs ys : List ℤ) (b : BufferStorage ℤ) → AreOffsets xs → ys ≡ map pos (offsets_list (start_of xs) (lengths_of xs)) → b ≡ whole_buffer ys → AreOffsets (buffer_items b) × (b ≡ whole_buffer xs)
whole_of_list xs ys b h e is =
    let same : b ≡ whole_buffer xs = is ∙ ap whole_buffer (e ∙ sym (spelled xs h)) in
    (rw (same, take_all (length xs) xs (omega arith)) h, same)

-- each offset is at most the greatest one
pub offset_within : (max : ℕ) (xs : List ℤ) (k : ℕ) → AreOffsetsUpTo max xs → k < length xs → (n : ℕ) × (get_or xs k (pos 0) ≡ pos n) × (n ≤ max)
offset_within max xs k h l =
    let t = sum-take-le (lengths_of xs) k in
    (offset_at (start_of xs) (lengths_of xs) k, get_or-offsets xs k h.0 l, omega (arith, h.1))

module _ {X : Type 0} (value : X → ℤ) where
  -- the number of slots
  pub length_slots : (items : List X) (n : ℕ) → AreOffsets (map value items) → n ≡ length items → length (lengths_of (map value items)) + 1 ≡ n
  length_slots items n h e =
      let m = length-map items value in
      let l = length-lengths_of (map value items) h in
      omega arith

  -- where slot k starts and ends, from the two offsets that were read
  pub slot_read : (items : List X) (x y : X) (k m n : ℕ) → AreOffsets (map value items) → k < length (lengths_of (map value items)) → x ≡ get_or items k x → y ≡ get_or items (k + 1) y → pos m ≡ value x → pos n ≡ value y → (m ≡ offset_at (start_of (map value items)) (lengths_of (map value items)) k) × (n ≡ m + get_or (lengths_of (map value items)) k 0) × (n ≤ last_of (map value items))
  slot_read items x y k m n h l is-x is-y e f =
      let xs = map value items in
      let ns = lengths_of xs in
      let len = length_slots items (length items) h refl in
      let p : m ≡ offset_at (start_of xs) ns k = same_naturals m _ (value x) e (value_at value items x k h (omega arith) is-x) in
      let q : n ≡ offset_at (start_of xs) ns (k + 1) = same_naturals n _ (value y) f (value_at value items y (k + 1) h (omega arith) is-y) in
      let s : sum (take (k + 1) ns) ≡ sum (take k ns) + get_or ns k 0 = rw add-one (sum-take-next ns k) in
      let t = sum-take-le ns (k + 1) in
      (p, omega arith, omega arith)

  -- in the words of a buffer that the offsets were read from
  pub value_last_of : (items : List X) (xs : List ℤ) (x : X) → map value items ≡ xs → AreOffsets xs → x ≡ get_or items (length items - 1) x → value x ≡ pos (last_of xs)
  value_last_of items xs x e h is = rw (← e) (value_last value items x (length items) (rw e h) refl is)

  -- the first and the last offset
  pub ends_in_order : (items : List X) (a b : X) → AreOffsets (map value items) → a ≡ get_or items 0 a → b ≡ get_or items (length items - 1) b → value a ≤ℤ value b
  ends_in_order items a b h is-a is-b =
      let m = length-map items value in
      let some = h.some in
      rw (value_at value items a 0 h (omega arith) is-a, value_last value items b (length items) h refl is-b) (omega (arith, ints))

  -- how far they are apart
  pub spread : (items : List X) (a b : X) (total : ℕ) → AreOffsets (map value items) → a ≡ get_or items 0 a → b ≡ get_or items (length items - 1) b → pos total ≡ value b -ℤ value a → total ≡ sum (lengths_of (map value items))
  spread items a b total h is-a is-b e =
      let m = length-map items value in
      let some = h.some in
      let xs = map value items in
      let first : value a ≡ pos (start_of xs) = value_at value items a 0 h (omega arith) is-a ∙ ap pos (omega arith) in
      let t : pos total ≡ pos (last_of xs) -ℤ pos (start_of xs) = e ∙ (ap (λ z. z -ℤ value a) (value_last value items b (length items) h refl is-b) ∙ ap (λ z. pos (last_of xs) -ℤ z) first) in
      let u : total + start_of xs ≡ last_of xs = omega (arith, ints, t) in
      omega arith

  -- an index inside the numbers of a buffer is inside its items
  pub same_inside : (b : BufferStorage X) (numbers : BufferStorage ℤ) (n : ℕ) → numbers_of value b ≡ numbers → n ≤ length (buffer_items numbers) → n ≤ length (buffer_items b)
  same_inside b numbers n is within =
      let long = ap length (part-map value b.storage b.offset b.len) in
      let m = length-map (buffer_items b) value in
      omega (arith, ap (λ c. length (buffer_items c)) is, long, m, within)

  -- a part of the offsets of a buffer
  pub part_of : (max : ℕ) (b c : BufferStorage X) (a n : ℕ) → AreOffsetsUpTo max (buffer_items (numbers_of value b)) → buffer_items c ≡ part (buffer_items b) a n → 0 < n → a + n ≤ length (buffer_items b) → AreOffsetsUpTo max (buffer_items (numbers_of value c)) × (start_of (buffer_items (numbers_of value c)) ≡ offset_at (start_of (buffer_items (numbers_of value b))) (lengths_of (buffer_items (numbers_of value b))) a) × (lengths_of (buffer_items (numbers_of value c)) ≡ part (lengths_of (buffer_items (numbers_of value b))) a (n - 1))
  part_of max b c a n h e some within =
      let xs = buffer_items (numbers_of value b) in
      let same : xs ≡ map value (buffer_items b) = part-map value b.storage b.offset b.len in
      let long = ap length same in
      let m = length-map (buffer_items b) value in
      let is : buffer_items (numbers_of value c) ≡ part xs a n = part-map value c.storage c.offset c.len ∙ (ap (map value) e ∙ (sym (part-map value (buffer_items b) a n) ∙ ap (λ ys. part ys a n) (sym same))) in
      let p = part_spells xs a n h.0 some (omega arith) in
      let s : Spells (buffer_items (numbers_of value c)) (offset_at (start_of xs) (lengths_of xs) a) (part (lengths_of xs) a (n - 1)) = rw is p in
      let t = sum-part (lengths_of xs) a (n - 1) in
      (up_to max (buffer_items (numbers_of value c)) (offset_at (start_of xs) (lengths_of xs) a) (part (lengths_of xs) a (n - 1)) s (omega (arith, h.1)), s.from, s.by)

  -- a whole list of offsets
  pub whole_of : (max : ℕ) (b : BufferStorage X) (items : List X) (start : ℕ) (ns : List ℕ) → b ≡ whole_buffer items → map value items ≡ map pos (offsets_list start ns) → start + sum ns ≤ max → AreOffsetsUpTo max (buffer_items (numbers_of value b))
  whole_of max b items start ns e is within =
      let same : buffer_items (numbers_of value b) ≡ map pos (offsets_list start ns) = ap (λ c. buffer_items (numbers_of value c)) e ∙ (part-map value items 0 (length items) ∙ (ap (map value) (take_all (length items) items (omega arith)) ∙ is)) in
      up_to max (buffer_items (numbers_of value b)) start ns (spells (buffer_items (numbers_of value b)) start ns same) within

  -- a slice of the offsets that a buffer gave
  pub slice_of : (items sliced : List X) (xs : List ℤ) (a m n : ℕ) → map value items ≡ xs → AreOffsets xs → sliced ≡ take m (drop a items) → m ≡ n + 1 → a + n < length xs → AreOffsets (map value sliced) × (lengths_of (map value sliced) ≡ part (lengths_of xs) a n)
  slice_of items sliced xs a m n e h is is-m within =
      let p = part_spells xs a (n + 1) h (omega arith) (omega arith) in
      let one : n + 1 - 1 ≡ n = omega arith in
      let same : map value sliced ≡ part xs a (n + 1) = ap (map value) (is ∙ ap (λ k. take k (drop a items)) is-m) ∙ (sym (part-map value items a (n + 1)) ∙ ap (λ ys. part ys a (n + 1)) e) in
      (rw same p.are, ap lengths_of same ∙ (p.by ∙ ap (λ k. part (lengths_of xs) a k) one))

  -- all of a buffer that was tested
  pub buffer_of : (max : ℕ) (b : BufferStorage X) (items : List X) → items ≡ buffer_items b → AreOffsetsUpTo max (map value items) → AreOffsetsUpTo max (buffer_items (numbers_of value b))
  buffer_of max b items e h = rw (part-map value b.storage b.offset b.len ∙ ap (map value) (sym e)) h

  -- one offset alone
  pub alone : (max : ℕ) (items grown : List X) (x : X) → items ≡ [] → grown ≡ items ++ x ∷ [] → value x ≡ pos 0 → AreOffsetsUpTo max (map value grown) × (start_of (map value grown) ≡ 0) × (lengths_of (map value grown) ≡ [])
  unfolding running_sums
  alone max items grown x none e is =
      let s : Spells (map value grown) 0 [] = spells (map value grown) 0 [] (rw (e, none) (rw is refl)) in
      (up_to max (map value grown) 0 [] s (omega arith), s.from, s.by)

  -- one more length
  pub pushed : (max : ℕ) (items grown : List X) (x : X) (last n : ℕ) → AreOffsets (map value items) → last ≡ last_of (map value items) → grown ≡ items ++ x ∷ [] → value x ≡ pos (last + n) → last + n ≤ max → AreOffsetsUpTo max (map value grown) × (start_of (map value grown) ≡ start_of (map value items)) × (lengths_of (map value grown) ≡ lengths_of (map value items) ++ n ∷ [])
  pushed max items grown x last n h is-last e is within =
      let xs = map value items in
      let p = pushed_one value xs [] n items grown x (h, (refl {a = start_of xs}, sym (append-nil (lengths_of xs)))) e (is ∙ ap pos (omega (arith, is-last))) in
      let now = last_grown (n ∷ []) xs (map value grown) p.1 in
      ((p.0, omega (arith, now, is-last)), p.1.0, p.1.1)

  -- some more lengths of 0
  pub repeated : (max : ℕ) (items grown : List X) (x : X) (len count k : ℕ) → AreOffsetsUpTo max (map value items) → len ≡ length items → count ≡ len + k → grown ≡ take count items ++ replicate (count - len) x → value x ≡ pos (last_of (map value items)) → AreOffsetsUpTo max (map value grown) × (start_of (map value grown) ≡ start_of (map value items)) × (lengths_of (map value grown) ≡ lengths_of (map value items) ++ replicate k 0)
  repeated max items grown x len count k h is-len is-count e is =
      let xs = map value items in
      let all : take count items ≡ items = take_all count items (omega arith) in
      let more : count - len ≡ k = omega arith in
      let g : grown ≡ items ++ replicate k x = e ∙ (ap (λ t. t ++ replicate (count - len) x) all ∙ ap (λ j. items ++ replicate j x) more) in
      let m : map value grown ≡ xs ++ replicate k (value x) = ap (map value) g ∙ (map-append value items (replicate k x) ∙ ap (λ t. xs ++ t) (map-replicate value k x)) in
      let p = repeat_spells xs (value x) k h.0 is in
      let s : Spells (map value grown) (start_of xs) (lengths_of xs ++ replicate k 0) = rw m p in
      let t = sum-append (lengths_of xs) (replicate k 0) in
      let z = sum-zeros k in
      (up_to max (map value grown) (start_of xs) (lengths_of xs ++ replicate k 0) s (omega (arith, h.1)), s.from, s.by)

  -- the first slots
  pub cut : (max : ℕ) (items kept : List X) (n k : ℕ) → AreOffsetsUpTo max (map value items) → n ≡ k + 1 → k ≤ length (lengths_of (map value items)) → kept ≡ take n items → AreOffsetsUpTo max (map value kept) × (start_of (map value kept) ≡ start_of (map value items)) × (lengths_of (map value kept) ≡ take k (lengths_of (map value items)))
  cut max items kept n k h is-n within e =
      let xs = map value items in
      let l = length-lengths_of xs h.0 in
      let m : map value kept ≡ take n xs = ap (map value) e ∙ sym (take-map value n items) in
      let p = take_spells xs n h.0 (omega arith) (omega arith) in
      let one : n - 1 ≡ k = omega arith in
      let s : Spells (map value kept) (start_of xs) (take (n - 1) (lengths_of xs)) = rw m p in
      let by : lengths_of (map value kept) ≡ take k (lengths_of xs) = s.by ∙ ap (λ j. take j (lengths_of xs)) one in
      let t = sum-take-le (lengths_of xs) (n - 1) in
      (up_to max (map value kept) (start_of xs) (take (n - 1) (lengths_of xs)) s (omega (arith, h.1)), s.from, by)

pub ruleset growing = (spelled, length-lengths_of, length-map, length-replicate, map-append)
