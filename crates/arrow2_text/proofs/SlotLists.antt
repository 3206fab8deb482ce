-- Slots between offsets with their validity.
use Rattle.std.proofs.Common.{◌≡◌, ℕ, ℤ, ◌+◌, ◌≤◌, List, [], ◌∷◌, ◌++◌, Bool, false, get_or, length, sum, count_by, take, drop, ap, sym, ◌∙◌, arith, IfSome, Option, Some, None, MatchOption, ◌↔◌, IsNone, is_none}
use Rattle.std.proofs.Math.Nat.{min-le_left, min-le_right, le-min}
use Rattle.std.proofs.lemmas.List.{length-append, length-drop, length-take, take_all, take_more, take-append-drop}
use Rattle.std.proofs.lemmas.List.Sums.{sum_by-append}
use Rattle.std.proofs.Math.Seq.{get_or-append_seam, take-add, take-length}
use Rattle.arrow2_model.specs.Lists.{BufferStorage, buffer_items, whole_buffer, part, BitmapStorage, items_of}
use Rattle.arrow2_bitmap.specs.PackedBitmaps.{IsPacked, packed_storage}
use Rattle.arrow2_offset.specs.NestedLists.{cut}
use Rattle.arrow2_offset.specs.Offsets.{lengths_of, start_of}
use Rattle.arrow2_utf8.specs.Texts.{slot_values}
use Rattle.arrow2_offset.proofs.NestedLists.{nested, length-cut, extend-cut, part-cut, push-cut, sum-part}
use Rattle.arrow2_offset.proofs.Appending.{sum-push}
use Rattle.arrow2_walks.specs.Zipped.{zipped}
use Rattle.arrow2_walks.proofs.Zipped.{length-zipped}
use Rattle.arrow2_validity.proofs.Slots.{arrays}
use Rattle.arrow2_text.specs.Binary.{BinaryParts, IsCompact, binary_items}

-- slots of others after them, by the bytes that these span
pub append-slots : {X : Type 0} (xs ys : List X) (start a k n : ℕ) (ns ms : List ℕ) → sum ns ≡ length xs → n ≡ sum (part ms a k) → cut (xs ++ part ys (start + sum (take a ms)) n) (ns ++ part ms a k) ≡ cut xs ns ++ part (cut (drop start ys) ms) a k
append-slots xs ys start a k n ns ms e size =
    let few = length-take k (drop a ms) in
    let most : length (part ms a k) ≤ k = omega (arith, few) in
    ap (λ l. cut (xs ++ part ys (start + sum (take a ms)) n) (ns ++ l)) (sym (take_all k (part ms a k) most))
    ∙ (extend-cut xs ys (start + sum (take a ms)) n k ns (part ms a k) e size most ∙ ap (λ l. cut xs ns ++ l) (sym (part-cut ys start ms a k)))

-- how many bytes the slots up to one of them have
pub sum-part-following : (ns : List ℕ) (a n : ℕ) → sum (take (a + n) ns) ≡ sum (take a ns) + sum (part ns a n)
sum-part-following ns a n = ap sum (take-add a n ns) ∙ sum_by-append (λ x. x) (take a ns) (part ns a n)

pub sum-take-all : (ns : List ℕ) (k : ℕ) → k ≡ length ns → sum (take k ns) ≡ sum ns
sum-take-all ns k e = ap sum (take_all k ns (omega (arith, e)))

-- the last offset of a part is not past that of the whole
pub last-part : (start : ℕ) (ns : List ℕ) (a n first : ℕ) (ms : List ℕ) (top : ℕ) → first ≡ start + sum (take a ns) → ms ≡ part ns a n → start + sum ns ≤ top → first + sum ms ≤ top
last-part start ns a n first ms top is-first is-ms h = let s = sum-part ns a n in rw (is-first, is-ms) (omega (arith, s, h))

-- all lengths are those before the last, and the last
pub sum-parts : (ns : List ℕ) (k : ℕ) → k + 1 ≡ length ns → sum ns ≡ sum (take k ns) + get_or ns k 0
sum-parts ns k e =
    let split : ns ≡ take k ns ++ get_or ns k 0 ∷ [] = sym (take_all (k + 1) ns (omega (arith, e))) ∙ take_more ns k 0 (omega (arith, e)) in
    ap sum split ∙ sum-push (take k ns) (get_or ns k 0)

-- the last slot of those that have all bytes, after the others
pub pop-cut : {X : Type 0} (xs : List X) (ns : List ℕ) (k : ℕ) → k + 1 ≡ length ns → sum ns ≡ length xs → cut xs ns ≡ cut (take (sum (take k ns)) xs) (take k ns) ++ part xs (sum (take k ns)) (get_or ns k 0) ∷ []
pop-cut xs ns k e whole =
    let s = sum (take k ns) in
    let n = get_or ns k 0 in
    let split : ns ≡ take k ns ++ n ∷ [] = sym (take_all (k + 1) ns (omega (arith, e))) ∙ take_more ns k 0 (omega (arith, e)) in
    let sums = ap sum split ∙ sum-push (take k ns) n in
    let front = length-take s xs in
    let following = length-drop s xs in
    let last : part xs s n ≡ drop s xs = take_all n (drop s xs) (omega (arith, following, sums, whole)) in
    ap (cut xs) split ∙ (ap (λ l. cut l (take k ns ++ n ∷ [])) (sym (take-append-drop s xs))
    ∙ (push-cut (take s xs) (drop s xs) (take k ns) n (omega (arith, front, sums, whole)) (omega (arith, following, sums, whole))
    ∙ ap (λ l. cut (take s xs) (take k ns) ++ l ∷ []) (sym last)))

-- the buffer of all that another one stores is that one, where nothing of it is sliced off
pub whole-again : {X : Type 0} (b : BufferStorage X) (v : List X) (n : ℕ) → v ≡ buffer_items b → v ≡ b.storage → n ≡ length (buffer_items b) → n ≡ b.len → b.offset + n ≤ length b.storage → whole_buffer v ≡ b
whole-again b v n items whole count len inside =
    let l = ap length items in
    let m = ap length whole in
    let offset : 0 ≡ b.offset = omega (arith, l, m, count, inside) in
    let size : length v ≡ b.len = omega (arith, l, count, len) in
    λ i. record { storage = whole i; offset = offset i; len = size i }

-- the last item, taken off
pub popped-bits : (r : Option Bool) (old new : List Bool) (k : ℕ) → k + 1 ≡ length old → MatchOption r (old ≡ []) (λ item. old ≡ new ++ item ∷ []) → old ≡ new ++ get_or old k false ∷ []
popped-bits None old new k e h = absurd (omega (arith, e, ap length h))
popped-bits (Some v) old new k e h =
    let n = length-append new (v ∷ []) in
    let l = ap length h in
    let same : k ≡ length new = omega (arith, n, l, e) in
    let is : get_or old k false ≡ v = ap (λ xs. get_or xs k false) h ∙ (ap (λ j. get_or (new ++ v ∷ []) j false) same ∙ get_or-append_seam new v [] false) in
    h ∙ ap (λ b. new ++ b ∷ []) (sym is)

-- as many items as lengths
pub length-slots : {X : Type 0} (xs : List X) (ns : List ℕ) (vs : List Bool) → length vs ≡ length ns → length (zipped (cut xs ns) vs) ≡ length ns
length-slots xs ns vs e = let l = length-cut xs ns in length-zipped (cut xs ns) vs (omega (arith, l, e)) ∙ l

-- the slots of offsets from 0 on, over all of a list
pub frozen-values : (offsets : BufferStorage ℤ) (values : BufferStorage ℕ) (xs ns : List ℕ) → start_of (buffer_items offsets) ≡ 0 → lengths_of (buffer_items offsets) ≡ ns → values ≡ whole_buffer xs → slot_values (buffer_items offsets) (buffer_items values) ≡ cut xs ns
frozen-values offsets values xs ns first lengths whole =
    ap (λ l. cut (drop (start_of (buffer_items offsets)) (buffer_items values)) l) lengths
    ∙ (ap (λ n. cut (drop n (buffer_items values)) ns) first ∙ (ap (λ b. cut (buffer_items b) ns) whole ∙ ap (λ l. cut l ns) (take_all (length xs) xs (omega arith))))

-- the buffer of a whole list is that of its items
whole-items : {X : Type 0} (b : BufferStorage X) (xs : List X) → b ≡ whole_buffer xs → b ≡ whole_buffer (buffer_items b)
whole-items b xs e = e ∙ ap whole_buffer (sym (ap buffer_items e ∙ take-length xs))

-- a bitmap of these items alone
pub packed-alone : (o : Option BitmapStorage) (vs : List Bool) → IfSome o (λ b. items_of b ≡ vs) → IfSome o (λ b. b ≡ packed_storage vs) → IfSome o (λ b. IsPacked b)
packed-alone None vs items stored = tt
packed-alone (Some b) vs items stored = stored ∙ ap packed_storage (sym items)

-- whole offsets that begin at 0, over a whole list of bytes whose length is the last offset
pub compact-slots : (a : BinaryParts) (xs ns : List ℕ) (ys : List ℤ) → sum ns ≡ length xs → a.offsets ≡ whole_buffer ys → start_of (buffer_items a.offsets) ≡ 0 → lengths_of (buffer_items a.offsets) ≡ ns → a.values ≡ whole_buffer xs → IfSome a.validity.bitmap (λ b. IsPacked b)
    → (IsNone a.validity.bitmap ↔ (count_by is_none (binary_items a) ≡ 0)) → IsCompact a
compact-slots a xs ns ys whole offsets start lengths values packed bitmap = record {
  whole =
      let count = ap length (ap buffer_items values ∙ take-length xs) in
      let all = ap sum lengths in
      (start, omega (arith, start, all, whole, count));
  offsets = whole-items a.offsets ys offsets;
  values = whole-items a.values xs values;
  validity = packed;
  bitmap = bitmap;
}

pub ruleset slotted = (arrays, nested, sum-part-following, sum-take-all)

pub ruleset growing = (arrays, nested, min-le_left, min-le_right, le-min, append-slots, sum-part-following)
