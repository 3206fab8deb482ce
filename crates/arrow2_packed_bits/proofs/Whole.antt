-- Many items after those that bytes hold.
use Rattle.std.proofs.Common.{◌≡◌, inl, inr, ℕ, ◌+◌, ◌-◌, ◌*◌, ◌/◌, ◌%◌, ◌<◌, ◌≤◌, List, ◌++◌, Bool, true, false, take, drop, replicate, length, get_or, refl, subst, ap, sym, ◌∙◌, arith, take-add}
use Rattle.std.proofs.lemmas.Bool.{cases_lt}
use Rattle.std.proofs.lemmas.List.{length-append, length-take-le, length-drop, length-replicate, get_or-take, get_or_append_left, get_or-append_right, get_or_past, ext_get_or, take_all, take-append-le, drop_more, append_assoc, take-replicate, replicate-append-replicate}
use Rattle.std.proofs.lemmas.Slice.{take-put_mid}
use borrow.Rule.Slice.PartMut.{put_mid}
use Rattle.arrow2_model.specs.Lists.{bits, unnum, IsCanonical, part}
use Rattle.arrow2_model.proofs.Bits.{length-unnum, get_or-unnum, bits-cons, bits-append, length-bits}
use Rattle.arrow2_model.proofs.Bytes.{take-bits, drop-bits, part-bits-drop}
use Rattle.arrow2_model.proofs.Parts.{part-add}
use Rattle.arrow2_model.proofs.Cursors.{length-part_bits}
use Rattle.arrow2_packed_bits.proofs.Buffer.{AreBytes, append_fits}
use Rattle.arrow2_packed_bits.proofs.WordPushes.{Hold, held, before}

-- ---- whole bytes

following : (bytes grown more : List ℕ) (k : ℕ) → grown ≡ bytes ++ more → 8 * length bytes ≤ k → get_or (bits grown) k false ≡ get_or (bits more) (k - 8 * length bytes) false
following bytes grown more k e h = ap (λ (b : List Bool). get_or b k false) (ap bits e ∙ bits-append bytes more) ∙ get_or-append_right (bits bytes) (bits more) (8 * length bytes) k false (length-bits bytes) h

-- all bits of bytes after items that end a byte
pub pushed_bytes : (bytes after more : List ℕ) (n : ℕ) → IsCanonical bytes n → (0 < length more → n % 8 ≡ 0) → after ≡ bytes ++ more → AreBytes more → Hold after (n + 8 * length more) (take n (bits bytes) ++ bits more)
pushed_bytes bytes after more n canonical whole e fits =
    let own : List Bool = take n (bits bytes) in
    let l = length-bits bytes in
    let m = length-bits more in
    let u = length-take-le n (bits bytes) (omega (arith, l, canonical.exact)) in
    let a = length-append bytes more in
    let b = length-append own (bits more) in
    let size : length after ≡ (n + 8 * length more + 7) / 8 = elim (cases_lt 0 (length more)) [
      | inl some ↦ omega (arith, ap length e, a, canonical.exact, whole some)
      | inr none ↦ omega (arith, ap length e, a, canonical.exact, none)
    ] in
    held after (n + 8 * length more) (own ++ bits more) (rw e (append_fits bytes more canonical.fits fits)) (omega (arith, b, u, m)) size (λ k k<. elim (cases_lt k (8 * length bytes)) [
      | inl lt ↦ before bytes after more k e lt ∙ (elim (cases_lt k n) [
        | inl own< ↦ sym (get_or_append_left own (bits more) false k (omega (arith, u)) ∙ get_or-take n (bits bytes) k false own<)
        | inr past ↦ canonical.clear k past ∙ sym (get_or_past (own ++ bits more) k false (elim (cases_lt 0 (length more)) [
          | inl some ↦ omega (arith, b, u, m, canonical.exact, whole some, past, lt)
          | inr none ↦ omega (arith, b, u, m, none, past)
        ]))
      ])
      | inr ge ↦
          let some : 0 < length more = omega (arith, ap length e, a, k<, ge) in
          let ends : n ≡ 8 * length bytes = omega (arith, canonical.exact, whole some) in
          following bytes after more k e ge
          ∙ (ap (λ j. get_or (bits more) (k - j) false) (sym ends) ∙ sym (get_or-append_right own (bits more) n k false u (omega (arith, ge, ends))))
    ])

-- the lowest bits of a byte, as those of a word
low_bits : (b r : ℕ) → r ≤ 8 → take r (unnum 8 b) ≡ take r (unnum 64 b)
low_bits b r h =
    let s = length-take-le r (unnum 8 b) (omega (arith, length-unnum 8 b)) in
    let t = length-take-le r (unnum 64 b) (omega (arith, length-unnum 64 b)) in
    ext_get_or false (take r (unnum 8 b)) (take r (unnum 64 b)) (s ∙ sym t) (λ i i<.
    let lt : i < r = omega (arith, s) in
    get_or-take r (unnum 8 b) i false lt ∙ (get_or-unnum 8 b i false (omega arith) ∙ sym (get_or-take r (unnum 64 b) i false lt ∙ get_or-unnum 64 b i false (omega arith))))

-- a front of bits: whole bytes, and the lowest bits of the next one
front_of_bits : (bytes : List ℕ) (c : ℕ) → c ≤ 8 * length bytes → 0 < c % 8 → take c (bits bytes) ≡ bits (take (c / 8) bytes) ++ take (c % 8) (unnum 64 (get_or bytes (c / 8) 0))
front_of_bits bytes c h some =
    let w : ℕ = c / 8 in
    let r : ℕ = c % 8 in
    let b : ℕ = get_or bytes w 0 in
    let at : c ≡ 8 * w + r = omega arith in
    let inside : w < length bytes = omega arith in
    let next : drop (8 * w) (bits bytes) ≡ unnum 8 b ++ bits (drop (w + 1) bytes) = drop-bits bytes w (omega arith) ∙ (ap bits (drop_more bytes w 0 inside) ∙ bits-cons b (drop (w + 1) bytes)) in
    let last : take r (drop (8 * w) (bits bytes)) ≡ take r (unnum 64 b) =
    ap (take r) next ∙ (take-append-le r (unnum 8 b) (bits (drop (w + 1) bytes)) (omega (arith, length-unnum 8 b)) ∙ low_bits b r (omega arith)) in
    ap (λ k. take k (bits bytes)) at ∙ (take-add (8 * w) r (bits bytes) ∙ (ap (λ (t : List Bool). t ++ take r (drop (8 * w) (bits bytes))) (take-bits bytes w (omega arith)) ∙ ap (λ (t : List Bool). bits (take w bytes) ++ t) last))

-- the first bits of bytes after items, the last byte of it by a word
pub pushed_front : (slice : List ℕ) (own first after : List Bool) (c x : ℕ) → c ≤ 8 * length slice → 0 < c % 8 → first ≡ own ++ bits (take (c / 8) slice) → after ≡ first ++ take (c % 8) (unnum 64 x) → x ≡ get_or slice (c / 8) 0 → after ≡ own ++ take c (bits slice)
pushed_front slice own first after c x inside some front last is =
    last
    ∙ (ap (λ (t : List Bool). t ++ take (c % 8) (unnum 64 x)) front
    ∙ (append_assoc own (bits (take (c / 8) slice)) (take (c % 8) (unnum 64 x))
    ∙ ap (λ (t : List Bool). own ++ t) (ap (λ y. bits (take (c / 8) slice) ++ take (c % 8) (unnum 64 y)) is ∙ sym (front_of_bits slice c inside some))))

-- the same where it ends a byte
pub pushed_whole_front : (slice : List ℕ) (own after : List Bool) (c : ℕ) → c ≤ 8 * length slice → c % 8 ≡ 0 → after ≡ own ++ bits (take (c / 8) slice) → after ≡ own ++ take c (bits slice)
pushed_whole_front slice own after c inside whole front =
    let count : 8 * (c / 8) ≡ c = omega arith in
    front ∙ ap (λ (t : List Bool). own ++ t) (sym (take-bits slice (c / 8) (omega arith)) ∙ ap (λ k. take k (bits slice)) count)

-- ---- the items of an iterator

-- the first of the items still to come are now after the others
pub moved_on : (own new items more left all : List Bool) → own ++ items ≡ all → items ≡ more ++ left → new ≡ own ++ more → new ++ left ≡ all
moved_on own new items more left all so first pushed =
    ap (λ (t : List Bool). t ++ left) pushed ∙ (append_assoc own more left ∙ (ap (λ (t : List Bool). own ++ t) (sym first) ∙ so))

-- all items of a word
pub whole_word : (x : ℕ) → take 64 (unnum 64 x) ≡ unnum 64 x
whole_word x = take_all 64 (unnum 64 x) (omega (arith, length-unnum 64 x))

-- the rest is after the others
pub rest_pushed : (own new items left all : List Bool) (k x : ℕ) → own ++ items ≡ all → left ≡ items → take (length left) (unnum 64 x) ≡ left → k ≡ length left → new ≡ own ++ take k (unnum 64 x) → new ≡ all
rest_pushed own new items left all k x so is front size pushed =
    pushed ∙ (ap (λ n. own ++ take n (unnum 64 x)) size ∙ (ap (λ (t : List Bool). own ++ t) (front ∙ is) ∙ so))

-- lists that are joined to one are as long
pub length-joined : (xs ys us vs : List Bool) → xs ++ ys ≡ us ++ vs → length xs + length ys ≡ length us + length vs
length-joined xs ys us vs e = omega (arith, ap length e, length-append xs ys, length-append us vs)

-- the number of items that a first word leaves
pub length-word : (x : ℕ) (items left : List Bool) → items ≡ unnum 64 x ++ left → length items ≡ 64 + length left
length-word x items left e = ap length e ∙ (length-append (unnum 64 x) left ∙ omega (arith, length-unnum 64 x))

-- one word more in a block
pub word_in_block : (block after word : List ℕ) (i k x : ℕ) (items left all : List Bool) → all ≡ bits (take (8 * i) block) ++ items → items ≡ unnum 64 x ++ left → after ≡ put_mid (8 * i) k block word → bits word ≡ unnum 64 x → 8 * i ≤ length block → all ≡ bits (take (8 * (i + 1)) after) ++ left
word_in_block block after word i k x items left all so first was of inside =
    let size : length word ≡ 8 = omega (arith, length-bits word, length-unnum 64 x, ap length of) in
    let put : take (8 * (i + 1)) after ≡ take (8 * i) block ++ word = ap (take (8 * (i + 1))) was ∙ take-put_mid (8 * i) k block word (8 * (i + 1)) (omega (arith, size)) inside in
    so
    ∙ (ap (λ (t : List Bool). bits (take (8 * i) block) ++ t) (first ∙ ap (λ (t : List Bool). t ++ left) (sym of))
    ∙ (sym (append_assoc (bits (take (8 * i) block)) (bits word) left) ∙ ap (λ (t : List Bool). t ++ left) (sym (ap bits put ∙ bits-append (take (8 * i) block) word))))

-- how long a block stays
pub length-word_in_block : (block after word : List ℕ) (i k x : ℕ) → after ≡ put_mid (8 * i) k block word → bits word ≡ unnum 64 x → 8 * i + 8 ≤ length block → k ≡ 8 → length after ≡ length block
length-word_in_block block after word i k x was of inside is =
    let size : length word ≡ 8 = omega (arith, length-bits word, length-unnum 64 x, ap length of) in
    let rest : List ℕ = drop k (drop (8 * i) block) in
    omega (arith, ap length was, length-append (take (8 * i) block) (word ++ rest), length-append word rest, length-take-le (8 * i) block (omega arith), length-drop k (drop (8 * i) block), length-drop (8 * i) block, size, is)

-- the number of items that eight words leave
pub length-block : (block : List ℕ) (items left : List Bool) → items ≡ bits block ++ left → length block ≡ 64 → length items ≡ 512 + length left
length-block block items left e size = ap length e ∙ (length-append (bits block) left ∙ omega (arith, length-bits block, size))

-- a part of bits after items, its head first
pub pushed_in_two : (slice : List ℕ) (own first second items : List Bool) (offset count head j k : ℕ) → head ≤ count → j ≤ length slice → 8 * j + k ≡ offset + head → items ≡ part (bits slice) offset head → first ≡ own ++ items
    → second ≡ first ++ part (bits (take (length slice - j) (drop j slice))) k (count - head) → second ≡ own ++ part (bits slice) offset count
pushed_in_two slice own first second items offset count head j k few inside at is one two =
    let all : take (length slice - j) (drop j slice) ≡ drop j slice = take_all (length slice - j) (drop j slice) (omega (arith, length-drop j slice)) in
    let whole : head + (count - head) ≡ count = omega arith in
    let rest : part (bits (take (length slice - j) (drop j slice))) k (count - head) ≡ part (bits slice) (offset + head) (count - head) =
    ap (λ (s : List ℕ). part (bits s) k (count - head)) all ∙ (part-bits-drop slice j k (count - head) inside ∙ ap (λ a. part (bits slice) a (count - head)) at) in
    two
    ∙ (ap (λ (t : List Bool). t ++ part (bits (take (length slice - j) (drop j slice))) k (count - head)) (one ∙ ap (λ (t : List Bool). own ++ t) is)
    ∙ (append_assoc own (part (bits slice) offset head) (part (bits (take (length slice - j) (drop j slice))) k (count - head))
    ∙ ap (λ (t : List Bool). own ++ t) (ap (λ (t : List Bool). part (bits slice) offset head ++ t) rest ∙ (sym (part-add (bits slice) offset head (count - head)) ∙ ap (part (bits slice) offset) whole))))

-- ---- lengths

pub length-append_word : (xs : List Bool) (k x : ℕ) → k ≤ 64 → length (xs ++ take k (unnum 64 x)) ≡ length xs + k
length-append_word xs k x few = omega (arith, length-append xs (take k (unnum 64 x)), length-take-le k (unnum 64 x) (omega (arith, length-unnum 64 x)))

pub length-append_bits : (xs : List Bool) (bytes : List ℕ) → length (xs ++ bits bytes) ≡ length xs + 8 * length bytes
length-append_bits xs bytes = omega (arith, length-append xs (bits bytes), length-bits bytes)

pub ruleset extending = (length-append_word, length-append_bits, length-part_bits, length-append, length-replicate, length-bits, length-word, length-block)
