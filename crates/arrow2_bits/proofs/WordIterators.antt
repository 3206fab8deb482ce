-- An iterator by words over a part of the bits of bytes.
use Rattle.std.proofs.Common.{◌≡◌, ℕ, zero, suc, ◌+◌, ◌-◌, ◌*◌, ◌/◌, ◌%◌, ◌^◌, ◌<◌, ◌≤◌, ◌==◌, List, [], ◌∷◌, Bool, false, if◌then◌else◌, take, drop, length, refl, ap, sym, ◌∙◌, arith, inl, inr, take_all, length-take-le, length-take, get_or-take, ext_get_or, length-drop}
use Rattle.std.proofs.Math.Nat.{div-div-eq-div-mul, div-add-mod, mod-lt, mul_assoc, mul_comm, mul-suc, mul-zero, mul-div-le, zero-mul, le-mul_of_pos_right}
use Rattle.std.proofs.lemmas.Nat.{div-mul-add}
use Rattle.std.proofs.lemmas.Bool.{cases_lt}
use Rattle.arrow2_model.specs.Lists.{unnum, bits, num, part, full_words, rest, spill, exact_spill}
use Rattle.arrow2_model.proofs.Bits.{length-bits, length-unnum, get_or-unnum}
use Rattle.arrow2_model.proofs.Bytes.{part-bits-part, part-bits-drop}
use Rattle.arrow2_model.proofs.Numbers.{bit-num, num-unnum}
use Rattle.arrow2_model.proofs.Parts.{take-part, drop-part, length-part, part-part}
use Rattle.arrow2_model.proofs.Words.{full_words-cons, full_words-none, rest-drop, length-full_words}
use Rattle.arrow2_bits.specs.Chunks.{IsChunkCursor}

-- a slice up to the end
pub slice_end : {X : Type 0} (items : List X) (a : ℕ) → take (length items - a) (drop a items) ≡ drop a items
slice_end items a = take_all (length items - a) (drop a items) (omega (arith, length-drop a items))

-- the lowest items of the word of a list
pub take-unnum-num : (w n : ℕ) (items : List Bool) → n ≤ w → n ≤ length items → take n (unnum w (num items)) ≡ take n items
take-unnum-num w n items h k =
    let u = length-unnum w (num items) in
    let a = length-take-le n (unnum w (num items)) (omega (arith, u)) in
    let b = length-take-le n items k in
    ext_get_or false (take n (unnum w (num items))) (take n items) (a ∙ sym b)
    (λ i i<. let lt : i < n = omega (arith, a) in
    get_or-take n (unnum w (num items)) i false lt ∙ (get_or-unnum w (num items) i false (omega arith) ∙ (bit-num items i ∙ sym (get_or-take n items i false lt))))

-- the number of words of 8 * k bits that len bits fill
pub full_count : (len k w : ℕ) → 8 * k ≡ w → len / 8 / k ≡ len / w
full_count len k w e = div-div-eq-div-mul len 8 k ∙ ap (λ d. len / d) e

-- the words and the bits after them
pub words_and_rest : (len k w : ℕ) → 8 * k ≡ w → 0 < w → w * (len / 8 / k) + (len - w * (len / 8 / k)) ≡ len
words_and_rest len k w e p = let f = full_count len k w e in let d = mul-div-le len w in rw f (omega (arith, d))

pub rest_is_short : (len k w : ℕ) → 8 * k ≡ w → 0 < w → len - w * (len / 8 / k) < w
rest_is_short len k w e p = let f = full_count len k w e in let d = div-add-mod len w in let m = mod-lt len p in rw f (omega (arith, d, m))

-- the bytes of the remainder hold it, from bit shift on
pub spilled_rest : (bytes following : List ℕ) (w shift len count tail start : ℕ) → shift < 8 → shift + len ≤ 8 * length bytes → w * count + tail ≡ len → tail < w → 8 * start ≡ w * count
    → (start ≡ 0 → following ≡ bytes) → (0 < start → following ≡ part bytes start ((len + shift + 7) / 8 - start))
    → take tail (unnum w (num (part (bits following) shift w))) ≡ part (bits bytes) (shift + w * count) tail
spilled_rest bytes following w shift len count tail start s<8 within all short at none some =
    elim (cases_lt 0 start) [
      | inr ge ↦
          let z : start ≡ 0 = omega arith in
          let e = none z in
          let l = length-bits following in
          let spare : shift + tail ≤ length (bits following) = omega (arith, l, ap length e) in
          let lw = length-take w (drop shift (bits following)) in
          let ld = length-drop shift (bits following) in
          take-unnum-num w tail (part (bits following) shift w) (omega arith) (omega (arith, lw, ld, spare))
          ∙ (take-part (bits following) shift tail w (omega arith)
          ∙ (rw e (ap (λ a. part (bits bytes) a tail) (omega (arith, at, z)))))
      | inl lt ↦
          let m : ℕ = (len + shift + 7) / 8 - start in
          let e = some lt in
          let inside : start + m ≤ length bytes = omega (arith, at) in
          let lb = length-part bytes start m inside in
          let l = length-bits following in
          let many : length following ≡ m = ap length e ∙ lb in
          let lw = length-take w (drop shift (bits following)) in
          let ld = length-drop shift (bits following) in
          take-unnum-num w tail (part (bits following) shift w) (omega arith) (omega (arith, lw, ld, l, many, at))
          ∙ (take-part (bits following) shift tail w (omega arith)
          ∙ (rw e (part-bits-part bytes start m shift tail (shift + w * count) inside (omega (arith, at)) (omega (arith, at)))))
    ]

-- where the words end, in bytes and in bits
word_starts : (full k w : ℕ) → 8 * k ≡ w → 8 * (full * k) ≡ w * full
word_starts full k w e = ap (λ n. 8 * n) (mul_comm full k) ∙ (sym (mul_assoc 8 k full) ∙ ap (λ n. n * full) e)

-- the invariant of an iterator that begins
pub new_cursor : (bytes following front : List ℕ) (k w offset len x : ℕ) → 8 * k ≡ w → 8 ≤ w → len < 2 ^ 64 → offset + len ≤ 8 * length bytes → front ≡ drop (offset / 8) bytes
    → (len / 8 / k * k ≡ 0 → following ≡ front) → (0 < len / 8 / k * k → following ≡ part front (len / 8 / k * k) ((len + offset % 8 + 7) / 8 - len / 8 / k * k))
    → x ≡ num (part (bits following) (offset % 8) w)
    → IsChunkCursor w front (offset % 8) (len / 8 / k) (len - w * (len / 8 / k)) x
new_cursor bytes following front k w offset len x e wide small h is none some number =
    let all = words_and_rest len k w e (omega arith) in
    let short = rest_is_short len k w e (omega arith) in
    let l = length-drop (offset / 8) bytes in
    let spare : offset % 8 + len ≤ 8 * length front = omega (arith, l, ap length is) in
    let at : 8 * (len / 8 / k * k) ≡ w * (len / 8 / k) = word_starts (len / 8 / k) k w e in
    record {
      position = omega arith;
      within = omega (arith, all, spare);
      short = short;
      fits = omega (arith, all, small);
      spilled = rw number (spilled_rest front following w (offset % 8) len (len / 8 / k) (len - w * (len / 8 / k)) (len / 8 / k * k) (omega arith) spare all short at none some);
    }

-- the items of an iterator that begins
pub new_items : (bytes front : List ℕ) (k w offset len : ℕ) → 8 * k ≡ w → 8 ≤ w → offset / 8 ≤ length bytes → front ≡ drop (offset / 8) bytes → part (bits front) (offset % 8) (w * (len / 8 / k) + (len - w * (len / 8 / k))) ≡ part (bits bytes) offset len
new_items bytes front k w offset len e wide h is =
    let all = words_and_rest len k w e (omega arith) in
    let o : 8 * (offset / 8) + offset % 8 ≡ offset = omega arith in
    rw (all, is) (part-bits-drop bytes (offset / 8) (offset % 8) len h ∙ ap (λ a. part (bits bytes) a len) o)

pos_suc : (n : ℕ) → 0 < suc n
pos_suc n = omega arith

no_zero : (n : ℕ) → 0 < n → (n == 0) ≡ false
no_zero n h = grind arith

spilled_is : (full k end : ℕ) (following b : List ℕ) → 0 < k → (full * k ≡ 0 → b ≡ following) → (0 < full * k → b ≡ part following (full * k) (end - full * k)) → b ≡ (if full == 0 then following else part following (full * k) (end - full * k))
spilled_is zero k end following b p none some = none (zero-mul k)
spilled_is (suc n) k end following b p none some = rw (no_zero (suc n) (pos_suc n)) (some (let l = le-mul_of_pos_right k (pos_suc n) in omega (arith, l, mul_comm (suc n) k)))

-- the remainder of an iterator that begins
pub new_spill : (bytes following front : List ℕ) (k w offset len x : ℕ) → 8 * k ≡ w → 8 ≤ w → front ≡ drop (offset / 8) bytes
    → (len / 8 / k * k ≡ 0 → following ≡ front) → (0 < len / 8 / k * k → following ≡ part front (len / 8 / k * k) ((len + offset % 8 + 7) / 8 - len / 8 / k * k))
    → x ≡ num (part (bits following) (offset % 8) w) → x ≡ spill k bytes offset len
unfolding spill
new_spill bytes following front k w offset len x e wide is none some number =
    let b = spilled_is (len / 8 / k) k ((len + offset % 8 + 7) / 8) front following (omega (arith, e)) none some in
    number ∙ (rw (← e, ← is) (ap (λ (t : List ℕ). num (part (bits t) (offset % 8) (8 * k))) b))

-- ---- an iterator from bit 0 on, over the bytes that hold its items

pub front_items : (bytes : List ℕ) (m len : ℕ) → len ≤ 8 * length bytes → m ≡ (len + 7) / 8 → part (bits (take m bytes)) 0 len ≡ part (bits bytes) 0 len
front_items bytes m len h e = part-bits-part bytes 0 m 0 len 0 (omega arith) (omega arith) refl

pub front_spill : (bytes : List ℕ) (k w m len : ℕ) → 8 * k ≡ w → 8 ≤ w → len ≤ 8 * length bytes → m ≡ (len + 7) / 8 → spill k (take m bytes) 0 len ≡ exact_spill k bytes len
unfolding spill exact_spill
front_spill bytes k w m len e wide h is =
    let full : ℕ = len / 8 / k in
    let a : ℕ = full * k in
    let b : List ℕ = part bytes a ((len + 7) / 8 - a) in
    let at = word_starts full k w e in
    let all = words_and_rest len k w e (omega arith) in
    let short = rest_is_short len k w e (omega arith) in
    let within : a ≤ (len + 7) / 8 = omega (arith, at, all) in
    let same : (len + 0 + 7) / 8 ≡ (len + 7) / 8 = omega arith in
    let spilled : b ≡ (if full == 0 then take m bytes else part (take m bytes) a ((len + 0 + 7) / 8 - a)) =
    spilled_is full k ((len + 0 + 7) / 8) (take m bytes) b (omega (arith, e))
    (λ z. rw (z, is) (ap (λ n. take n bytes) (omega arith)))
    (λ p. rw (same, is) (sym (part-part bytes 0 ((len + 7) / 8) a ((len + 7) / 8 - a) (omega arith) ∙ ap (λ n. part bytes n ((len + 7) / 8 - a)) (omega arith)))) in
    let lb = length-bits b in
    let lp = length-take ((len + 7) / 8 - a) (drop a bytes) in
    ap (λ (t : List ℕ). num (part (bits t) 0 (8 * k))) (sym spilled) ∙ ap num (take_all (8 * k) (bits b) (omega (arith, lb, lp, at, all, short, e)))

-- ---- steps of an iterator

div-mul-add_left : (w count tail : ℕ) → tail < w → (w * count + tail) / w ≡ count
div-mul-add_left w count tail h = rw (mul_comm w count) (div-mul-add count w tail h)

-- the number of words to come
pub words_left : (bytes : List ℕ) (w shift count tail word : ℕ) → IsChunkCursor w bytes shift count tail word → length (full_words w (part (bits bytes) shift (w * count + tail))) ≡ count
words_left bytes w shift count tail word cursor =
    let l = length-bits bytes in
    let n = length-part (bits bytes) shift (w * count + tail) (omega (arith, l, cursor.within)) in
    length-full_words w (part (bits bytes) shift (w * count + tail)) ∙ (rw n (div-mul-add_left w count tail cursor.short))

-- the number of items fits a number of 64 bits
pub cursor_fits : (bytes : List ℕ) (w shift count tail word : ℕ) → IsChunkCursor w bytes shift count tail word → length (part (bits bytes) shift (w * count + tail)) < 2 ^ 64
cursor_fits bytes w shift count tail word cursor =
    let l = length-bits bytes in
    let n = length-part (bits bytes) shift (w * count + tail) (omega (arith, l, cursor.within)) in
    omega (arith, n, cursor.fits)

-- the number of items after them, and these items
pub rest_left : (bytes : List ℕ) (w shift count tail word : ℕ) → IsChunkCursor w bytes shift count tail word → rest w (part (bits bytes) shift (w * count + tail)) ≡ part (bits bytes) (shift + w * count) tail
unfolding rest
rest_left bytes w shift count tail word cursor =
    let l = length-bits bytes in
    let n = length-part (bits bytes) shift (w * count + tail) (omega (arith, l, cursor.within)) in
    let q : length (part (bits bytes) shift (w * count + tail)) / w ≡ count = rw n (div-mul-add_left w count tail cursor.short) in
    rw q (drop-part (bits bytes) shift (w * count) tail)

-- the lowest bits of the word of the remainder are the rest
pub length_of_rest : (bytes : List ℕ) (w shift count tail word : ℕ) → IsChunkCursor w bytes shift count tail word → length (rest w (part (bits bytes) shift (w * count + tail))) ≡ tail
length_of_rest bytes w shift count tail word cursor =
    let l = length-bits bytes in
    ap length (rest_left bytes w shift count tail word cursor) ∙ length-part (bits bytes) (shift + w * count) tail (omega (arith, l, cursor.within))

pub rest_of_word : (bytes : List ℕ) (w shift count tail word : ℕ) → IsChunkCursor w bytes shift count tail word
    → take (length (rest w (part (bits bytes) shift (w * count + tail)))) (unnum w word) ≡ rest w (part (bits bytes) shift (w * count + tail))
rest_of_word bytes w shift count tail word cursor =
    rw (length_of_rest bytes w shift count tail word cursor) (cursor.spilled ∙ sym (rest_left bytes w shift count tail word cursor))

-- no word is left
pub cursor_ended : (bytes : List ℕ) (w shift count tail word : ℕ) → IsChunkCursor w bytes shift count tail word → count ≡ 0 → full_words w (part (bits bytes) shift (w * count + tail)) ≡ []
cursor_ended bytes w shift count tail word cursor z =
    let l = length-bits bytes in
    let m : w * count ≡ 0 = rw z (mul-zero w) in
    let n = length-part (bits bytes) shift (w * count + tail) (omega (arith, l, cursor.within)) in
    full_words-none w (part (bits bytes) shift (w * count + tail)) (omega (arith, n, m, cursor.short))

-- a word is taken
pub cursor_moves : (bytes after : List ℕ) (k w shift count before tail word x : ℕ) → 8 * k ≡ w → 8 ≤ w → IsChunkCursor w bytes shift before tail word → before ≡ count + 1 → after ≡ drop k bytes → x < 2 ^ w → unnum w x ≡ part (bits bytes) shift w
    → IsChunkCursor w after shift count tail word
    × (full_words w (part (bits bytes) shift (w * before + tail)) ≡ x ∷ full_words w (part (bits after) shift (w * count + tail)))
    × (rest w (part (bits after) shift (w * count + tail)) ≡ rest w (part (bits bytes) shift (w * before + tail)))
cursor_moves bytes after k w shift count before tail word x e wide cursor was moved fits is =
    let l = length-bits bytes in
    let d = length-drop k bytes in
    let step : w * before ≡ w + w * count = ap (λ n. w * n) (was ∙ omega arith) ∙ (mul-suc w count ∙ omega arith) in
    let n : w * before + tail ≡ w + (w * count + tail) = omega (arith, step) in
    let k≤ : k ≤ length bytes = omega (arith, cursor.within, step, e) in
    let la : length after ≡ length bytes - k = ap length moved ∙ d in
    let items : List Bool = part (bits bytes) shift (w + (w * count + tail)) in
    let li = length-part (bits bytes) shift (w + (w * count + tail)) (omega (arith, l, cursor.within, n)) in
    let p : 0 < w = omega arith in
    let cons = full_words-cons w items p (omega (arith, li)) in
    let others : drop w items ≡ part (bits after) shift (w * count + tail) =
    drop-part (bits bytes) shift w (w * count + tail) ∙ (rw moved (sym (part-bits-drop bytes k shift (w * count + tail) k≤ ∙ ap (λ a. part (bits bytes) a (w * count + tail)) (omega (arith, e))))) in
    let first : num (take w items) ≡ x = ap num (take-part (bits bytes) shift w (w + (w * count + tail)) (omega arith) ∙ sym is) ∙ num-unnum w x fits in
    let back : part (bits after) (shift + w * count) tail ≡ part (bits bytes) (shift + w * before) tail =
    rw moved (part-bits-drop bytes k (shift + w * count) tail k≤ ∙ ap (λ a. part (bits bytes) a tail) (omega (arith, e, step))) in (
      record {
        position = cursor.position;
        within = omega (arith, cursor.within, n, la, e);
        short = cursor.short;
        fits = omega (arith, cursor.fits, n);
        spilled = cursor.spilled ∙ sym back;
      },
      rw n (cons ∙ (rw (first, others) refl)),
      rw n (ap (rest w) (sym others) ∙ rest-drop w items p (omega (arith, li))),
    )
