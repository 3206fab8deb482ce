-- Words that are read from bytes and written there.
use Rattle.std.proofs.Common.{◌≡◌, inl, inr, ◌⊎◌, ℕ, zero, suc, refl, subst, ◌+◌, ◌-◌, ◌*◌, ◌/◌, ◌%◌, ◌^◌, ◌<◌, ◌≤◌, List, ◌++◌, Bool, false, take, drop, replicate, length, get_or, ap, sym, ◌∙◌, arith}
use Rattle.std.proofs.lemmas.Bool.{cases_lt}
use Rattle.std.proofs.lemmas.List.{length-append, length-take, length-take-le, length-drop, get_or-take, get_or-drop, get_or_append_left, get_or-append_right, get_or-replicate, get_or_past, take-append-drop}
use Rattle.std.proofs.lemmas.Nat.{div-mul-add, mod-mul-add}
use Rattle.std.proofs.lemmas.Slice.{take-put_mid, drop-put_mid}
use Rattle.std.proofs.Math.Nat.{mul_comm, mul-suc, div-lt_iff_lt-mul, mul-lt-mul_of_pos_left, lt_of_mul-lt-mul_left, div-add-mod, add-mul-mod_self_right, add-mul-div_right}
use borrow.Rule.Slice.PartMut.{put_mid}
use Rattle.arrow2_model.specs.Lists.{bit, bits, unnum, part, IsCanonical, word}
use Rattle.arrow2_model.specs.Kernels.{bits_of_words}
use Rattle.arrow2_kernels.specs.WordResults.{AreJoinedResults}
use Rattle.arrow2_model.proofs.Bits.{length-unnum, get_or-unnum, bits-append, length-bits}
use Rattle.arrow2_model.proofs.Bytes.{take-bits, drop-bits}
use Rattle.arrow2_model.proofs.BitsOfWords.{joined_from}
use Rattle.arrow2_model.proofs.Numbers.{bit-num, num-part-lt, same_from_bits}
use Rattle.arrow2_model.proofs.Parts.{get_or-part}

-- ---- bytes with some of them written over

put_whole : (xs ys : List ℕ) (a k : ℕ) → a + k ≤ length xs → length ys ≡ k → put_mid a k xs ys ≡ (take a xs ++ ys) ++ drop (a + k) xs
put_whole xs ys a k inside size =
    sym (take-append-drop (a + k) (put_mid a k xs ys))
    ∙ (ap (λ (t : List ℕ). t ++ drop (a + k) (put_mid a k xs ys)) (take-put_mid a k xs ys (a + k) (omega arith) (omega arith))
    ∙ ap (λ (t : List ℕ). (take a xs ++ ys) ++ t) (drop-put_mid a k xs ys (a + k) (omega arith) (omega arith) size))

bits_put : (xs ys : List ℕ) (a k : ℕ) → a + k ≤ length xs → length ys ≡ k → bits (put_mid a k xs ys) ≡ (bits (take a xs) ++ bits ys) ++ bits (drop (a + k) xs)
bits_put xs ys a k inside size =
    ap bits (put_whole xs ys a k inside size)
    ∙ (bits-append (take a xs ++ ys) (drop (a + k) xs) ∙ ap (λ (t : List Bool). t ++ bits (drop (a + k) xs)) (bits-append (take a xs) ys))

pub put_inside : (xs ys : List ℕ) (a k i : ℕ) → a + k ≤ length xs → length ys ≡ k → i < 8 * k → get_or (bits (put_mid a k xs ys)) (8 * a + i) false ≡ get_or (bits ys) i false
put_inside xs ys a k i inside size h =
    let front = length-take-le a xs (omega arith) in
    let f = length-bits (take a xs) in
    let m = length-bits ys in
    let l = length-append (bits (take a xs)) (bits ys) in
    let z : 8 * a + i - 8 * a ≡ i = omega arith in
    ap (λ (t : List Bool). get_or t (8 * a + i) false) (bits_put xs ys a k inside size)
    ∙ (get_or_append_left (bits (take a xs) ++ bits ys) (bits (drop (a + k) xs)) false (8 * a + i) (omega (arith, l, f, m, front))
    ∙ (get_or-append_right (bits (take a xs)) (bits ys) (8 * a) (8 * a + i) false (omega (arith, f, front)) (omega arith) ∙ ap (λ j. get_or (bits ys) j false) z))

pub put_outside : (xs ys : List ℕ) (a k p : ℕ) → a + k ≤ length xs → length ys ≡ k → (p < 8 * a) ⊎ (8 * (a + k) ≤ p) → get_or (bits (put_mid a k xs ys)) p false ≡ get_or (bits xs) p false
put_outside xs ys a k p inside size h =
    let front = length-take-le a xs (omega arith) in
    let f = length-bits (take a xs) in
    let m = length-bits ys in
    let l = length-append (bits (take a xs)) (bits ys) in
    ap (λ (t : List Bool). get_or t p false) (bits_put xs ys a k inside size)
    ∙ (elim h [
      | inl before ↦
          get_or_append_left (bits (take a xs) ++ bits ys) (bits (drop (a + k) xs)) false p (omega (arith, l, f, m, front))
          ∙ (get_or_append_left (bits (take a xs)) (bits ys) false p (omega (arith, f, front))
          ∙ (ap (λ (t : List Bool). get_or t p false) (sym (take-bits xs a (omega arith))) ∙ get_or-take (8 * a) (bits xs) p false before))
      | inr following ↦
          let q : 8 * (a + k) + (p - 8 * (a + k)) ≡ p = omega arith in
          get_or-append_right (bits (take a xs) ++ bits ys) (bits (drop (a + k) xs)) (8 * (a + k)) p false (omega (arith, l, f, m, front)) following
          ∙ (ap (λ (t : List Bool). get_or t (p - 8 * (a + k)) false) (sym (drop-bits xs (a + k) inside)) ∙ (get_or-drop (8 * (a + k)) (bits xs) (p - 8 * (a + k)) false ∙ ap (λ j. get_or (bits xs) j false) q))
    ])

-- a bit of the first bytes of a word
pub word_bit : (w x c i : ℕ) (word : List ℕ) → bits word ≡ unnum w x → 8 * c ≤ w → i < 8 * c → get_or (bits (take c word)) i false ≡ bit x i
word_bit w x c i word of most h =
    let l = length-bits word in
    let u = length-unnum w x in
    let spare : c ≤ length word = omega (arith, l, u, ap length of) in
    ap (λ (t : List Bool). get_or t i false) (sym (take-bits word c spare))
    ∙ (get_or-take (8 * c) (bits word) i false h ∙ (ap (λ (t : List Bool). get_or t i false) of ∙ get_or-unnum w x i false (omega arith)))

-- a bit of a word that was read from a block, which begins with c bytes of a list
pub read_bit : (w n x a c i : ℕ) (xs block : List ℕ) → 8 * n ≡ w → unnum w x ≡ bits (take n block) → take c block ≡ take c (drop a xs) → n ≤ length block → a + c ≤ length xs → c ≤ n → i < 8 * c → bit x i ≡ get_or (bits xs) (8 * a + i) false
read_bit w n x a c i xs block size is from long inside most h =
    let d = length-drop a xs in
    sym (get_or-unnum w x i false (omega arith))
    ∙ (ap (λ (t : List Bool). get_or t i false) (is ∙ sym (take-bits block n long))
    ∙ (get_or-take (8 * n) (bits block) i false (omega arith)
    ∙ (sym (get_or-take (8 * c) (bits block) i false h)
    ∙ (ap (λ (t : List Bool). get_or t i false) (take-bits block c (omega arith) ∙ (ap bits from ∙ (sym (take-bits (drop a xs) c (omega (arith, d))) ∙ ap (take (8 * c)) (sym (drop-bits xs a (omega arith))))))
    ∙ (get_or-take (8 * c) (drop (8 * a) (bits xs)) i false h ∙ get_or-drop (8 * a) (bits xs) i false)))))

-- ---- a loop that writes word by word

-- the first p bits are those of the words
abbrev pub Done : ℕ → (ℕ → ℕ) → List ℕ → ℕ → Type 0
Done w g bytes p = (k : ℕ) → k < p → get_or (bits bytes) k false ≡ bit (g (k / w)) (k % w)

-- from bit p on nothing was written
abbrev pub Kept : List ℕ → List ℕ → ℕ → Type 0
Kept old bytes p = (k : ℕ) → p ≤ k → get_or (bits bytes) k false ≡ get_or (bits old) k false

-- the word that begins at an index
position_of : (w q i : ℕ) → i < w → ((w * q + i) / w ≡ q) × ((w * q + i) % w ≡ i)
position_of w q i h = let e : w * q + i ≡ q * w + i = omega (arith, mul_comm w q) in (ap (λ n. n / w) e ∙ div-mul-add q w i h, ap (λ n. n % w) e ∙ mod-mul-add q w i h)

-- the bit at which a byte stands begins a word
pub position_now : (w size at : ℕ) → 8 * size ≡ w → at % size ≡ 0 → 8 * at ≡ w * (at / size)
position_now w size at wide whole = let d = div-add-mod at size in rw (← wide) (omega (arith, d))

-- and so for the next one
pub position_next : (size at s : ℕ) → 0 < size → s ≡ size → at % size ≡ 0 → ((at + s) % size ≡ 0) × ((at + s) / size ≡ at / size + 1)
position_next size at s pos e whole =
    let n : at + s ≡ at + 1 * size = omega arith in
    (ap (λ (k : ℕ). k % size) n ∙ (add-mul-mod_self_right at 1 size ∙ whole), ap (λ (k : ℕ). k / size) n ∙ add-mul-div_right at 1 pos)

-- a word that was read is the word of the list
pub own_word : (w x q n p : ℕ) (old bytes : List ℕ) → p ≡ w * q → p + w ≤ n → n ≤ 8 * length old → x < 2 ^ w → ((i : ℕ) → i < w → bit x i ≡ get_or (bits bytes) (p + i) false) → Kept old bytes p → x ≡ word w (take n (bits old)) q
own_word w x q n p old bytes at inside spare fits read kept =
    same_from_bits w x (word w (take n (bits old)) q) fits (num-part-lt w (take n (bits old)) (w * q))
    (λ i h. read i h ∙ (kept (p + i) (omega arith) ∙ sym (bit-num (part (take n (bits old)) (w * q) w) i ∙ (get_or-part (take n (bits old)) (w * q) w i false h ∙ (get_or-take n (bits old) (w * q + i) false (omega arith) ∙ ap (λ k. get_or (bits old) k false) (omega arith))))))

-- the same of a rest that was masked
pub own_rest : (w x m len q n p : ℕ) (old bytes : List ℕ) → p ≡ w * q → p + len ≡ n → len < w → n ≤ 8 * length old → m < 2 ^ w → unnum w m ≡ take len (unnum w x) ++ replicate (w - len) false
    → ((i : ℕ) → i < len → bit x i ≡ get_or (bits bytes) (p + i) false) → Kept old bytes p → m ≡ word w (take n (bits old)) q
own_rest w x m len q n p old bytes at end short spare fits masked read kept =
    let u = length-unnum w x in
    let t = length-take-le len (unnum w x) (omega (arith, u)) in
    let l = length-take n (bits old) in
    same_from_bits w m (word w (take n (bits old)) q) fits (num-part-lt w (take n (bits old)) (w * q))
    (λ i h. sym (get_or-unnum w m i false h) ∙ (ap (λ (b : List Bool). get_or b i false) masked ∙ sym (bit-num (part (take n (bits old)) (w * q) w) i ∙ (get_or-part (take n (bits old)) (w * q) w i false h ∙ sym (elim (cases_lt i len) [
      | inl lt ↦
          get_or_append_left (take len (unnum w x)) (replicate (w - len) false) false i (omega (arith, t))
          ∙ (get_or-take len (unnum w x) i false lt ∙ (get_or-unnum w x i false h ∙ (read i lt ∙ (kept (p + i) (omega arith)
          ∙ (ap (λ k. get_or (bits old) k false) (omega arith) ∙ sym (get_or-take n (bits old) (w * q + i) false (omega arith)))))))
      | inr ge ↦
          get_or-append_right (take len (unnum w x)) (replicate (w - len) false) len i false t ge
          ∙ (get_or-replicate (w - len) (i - len) false false (omega arith) ∙ sym (get_or_past (take n (bits old)) (w * q + i) false (omega (arith, l))))
    ])))))

-- a word that was written
pub done_word : (w r q p : ℕ) (g : ℕ → ℕ) (bytes after : List ℕ) → 0 < w → p ≡ w * q → ((i : ℕ) → i < w → get_or (bits after) (p + i) false ≡ bit r i) → ((k : ℕ) → (k < p) ⊎ (p + w ≤ k) → get_or (bits after) k false ≡ get_or (bits bytes) k false)
    → unnum w r ≡ unnum w (g q) → Done w g bytes p → Done w g after (p + w)
done_word w r q p g bytes after pos at written kept same done k h = elim (cases_lt k p) [
  | inl lt ↦ kept k (inl lt) ∙ done k lt
  | inr ge ↦
      let i : ℕ = k - p in
      let i< : i < w = omega arith in
      let e : k ≡ w * q + i = omega arith in
      let position = position_of w q i i< in
      let e' : p + i ≡ k = omega arith in
      ap (λ z. get_or (bits after) z false) (sym e') ∙ (written i i< ∙ (sym (get_or-unnum w r i false i<) ∙ (ap (λ (b : List Bool). get_or b i false) same ∙ (get_or-unnum w (g q) i false i<
      ∙ sym (ap (λ z. bit (g (z / w)) (z % w)) e ∙ (ap (λ z. bit (g z) ((w * q + i) % w)) position.0 ∙ ap (bit (g q)) position.1))))))
]

pub kept_word : (old bytes after : List ℕ) (p w : ℕ) → Kept old bytes p → ((k : ℕ) → (k < p) ⊎ (p + w ≤ k) → get_or (bits after) k false ≡ get_or (bits bytes) k false) → Kept old after (p + w)
kept_word old bytes after p w kept same k h = same k (inr h) ∙ kept k (omega arith)

-- all words were written
pub done_all : (w n : ℕ) (g : ℕ → ℕ) (bytes : List ℕ) → 0 < w → n ≤ 8 * length bytes → Done w g bytes n → take n (bits bytes) ≡ bits_of_words w g n
done_all w n g bytes pos spare done =
    let l = length-bits bytes in
    let t = length-take-le n (bits bytes) (omega (arith, l)) in
    joined_from w g n (take n (bits bytes)) pos t (λ k h. get_or-take n (bits bytes) k false h ∙ done k h)

-- the rest was written, too
pub done_rest : (w r m len q p n : ℕ) (g : ℕ → ℕ) (bytes after : List ℕ) → 0 < w → p ≡ w * q → p + len ≡ n → len < w → unnum w m ≡ take len (unnum w r) ++ replicate (w - len) false
    → ((i : ℕ) → i < len → get_or (bits after) (p + i) false ≡ bit m i) → ((k : ℕ) → k < p → get_or (bits after) k false ≡ get_or (bits bytes) k false)
    → unnum w r ≡ unnum w (g q) → Done w g bytes p → Done w g after n
done_rest w r m len q p n g bytes after pos at end short masked written kept same done k h = elim (cases_lt k p) [
  | inl lt ↦ kept k lt ∙ done k lt
  | inr ge ↦
      let i : ℕ = k - p in
      let i< : i < len = omega arith in
      let i<w : i < w = omega arith in
      let e : k ≡ w * q + i = omega arith in
      let position = position_of w q i i<w in
      let e' : p + i ≡ k = omega arith in
      ap (λ z. get_or (bits after) z false) (sym e') ∙ (written i i< ∙ (low_bit w len r m i (omega arith) masked i< ∙ (sym (get_or-unnum w r i false i<w) ∙ (ap (λ (b : List Bool). get_or b i false) same ∙ (get_or-unnum w (g q) i false i<w
      ∙ sym (ap (λ z. bit (g (z / w)) (z % w)) e ∙ (ap (λ z. bit (g z) ((w * q + i) % w)) position.0 ∙ ap (bit (g q)) position.1)))))))
]
  where
    low_bit : (w len r m i : ℕ) → len ≤ w → unnum w m ≡ take len (unnum w r) ++ replicate (w - len) false → i < len → bit m i ≡ bit r i
    low_bit w len r m i most e h =
        let u = length-unnum w r in
        let t = length-take-le len (unnum w r) (omega (arith, u)) in
        sym (get_or-unnum w m i false (omega arith)) ∙ (ap (λ (b : List Bool). get_or b i false) e ∙ (get_or_append_left (take len (unnum w r)) (replicate (w - len) false) false i (omega (arith, t)) ∙ (get_or-take len (unnum w r) i false h ∙ get_or-unnum w r i false (omega arith))))

-- and nothing comes after the last item
pub rest_canonical : (w r m len p c n : ℕ) (after : List ℕ) → len ≤ w → p + len ≡ n → p + 8 * c ≡ 8 * length after → 8 * c ≤ w → length after ≡ (n + 7) / 8 → unnum w m ≡ take len (unnum w r) ++ replicate (w - len) false
    → ((i : ℕ) → i < 8 * c → get_or (bits after) (p + i) false ≡ bit m i) → ((k : ℕ) → get_or after k 0 < 256) → IsCanonical after n
rest_canonical w r m len p c n after most end whole spare exact masked written fits =
    let l = length-bits after in
    record {
      fits = fits;
      exact = exact;
      clear = λ k h. elim (cases_lt k (8 * length after)) [
        | inr past ↦ get_or_past (bits after) k false (omega (arith, l))
        | inl lt ↦
            let i : ℕ = k - p in
            let e : p + i ≡ k = omega arith in
            ap (λ z. get_or (bits after) z false) (sym e) ∙ (written i (omega arith) ∙ high_bit w len r m i masked (omega arith) (omega arith))
      ];
    }
  where
    high_bit : (w len r m i : ℕ) → unnum w m ≡ take len (unnum w r) ++ replicate (w - len) false → len ≤ i → i < w → bit m i ≡ false
    high_bit w len r m i e h wide =
        let u = length-unnum w r in
        let t = length-take-le len (unnum w r) (omega (arith, u)) in
        sym (get_or-unnum w m i false wide) ∙ (ap (λ (b : List Bool). get_or b i false) e ∙ (get_or-append_right (take len (unnum w r)) (replicate (w - len) false) len i false t h ∙ get_or-replicate (w - len) (i - len) false false (omega arith)))

pub whole_canonical : (bytes : List ℕ) (n : ℕ) → 8 * length bytes ≡ n → ((k : ℕ) → get_or bytes k 0 < 256) → IsCanonical bytes n
whole_canonical bytes n size fits = record {
  fits = fits;
  exact = omega arith;
  clear = λ k h. let l = length-bits bytes in get_or_past (bits bytes) k false (omega (arith, l));
}

-- ---- the results of a loop

-- the results of the first q words, and then y
unfoldable with_result : (ℕ → ℕ) → ℕ → ℕ → ℕ → ℕ
with_result f zero y j = y
with_result f (suc q) y zero = f zero
with_result f (suc q) y (suc j) = with_result (λ i. f (suc i)) q y j

result_before : (f : ℕ → ℕ) (q y j : ℕ) → j < q → with_result f q y j ≡ f j
unfolding with_result
result_before f zero y j h = absurd (omega arith)
result_before f (suc q) y zero h = refl
result_before f (suc q) y (suc j) h = result_before (λ i. f (suc i)) q y j (omega arith)

result_at : (f : ℕ → ℕ) (q y : ℕ) → with_result f q y q ≡ y
unfolding with_result
result_at f zero y = refl
result_at f (suc q) y = result_at (λ i. f (suc i)) q y

-- the first p bits are those of results that are allowed
abbrev pub DoneBy : ℕ → (ℕ → ℕ → Type 0) → List ℕ → ℕ → Type 0
DoneBy w allowed bytes p = (results : ℕ → ℕ) × ((j : ℕ) → w * j < p → allowed j (results j)) × Done w results bytes p

-- results that are the same before p
done_same : (w q p : ℕ) (g h : ℕ → ℕ) (bytes : List ℕ) → 0 < w → p ≡ w * q → ((j : ℕ) → j < q → h j ≡ g j) → Done w g bytes p → Done w h bytes p
done_same w q p g h bytes pos at same done k k< =
    let less : k / w < q = (div-lt_iff_lt-mul pos).1 (omega (arith, mul_comm w q, at, k<)) in
    done k k< ∙ ap (λ x. bit x (k % w)) (sym (same (k / w) less))

-- and one more is allowed
more_allowed : (w r q p e : ℕ) (allowed : ℕ → ℕ → Type 0) (results : ℕ → ℕ) → 0 < w → p ≡ w * q → e ≤ p + w → allowed q r → ((j : ℕ) → w * j < p → allowed j (results j)) → (j : ℕ) → w * j < e → allowed j (with_result results q r j)
more_allowed w r q p e allowed results pos at end is before j h = elim (cases_lt j q) [
  | inl lt ↦ subst (allowed j) (sym (result_before results q r j lt)) (before j (omega (arith, at, mul-lt-mul_of_pos_left {k = w} lt pos)))
  | inr ge ↦
      let less : j < suc q = lt_of_mul-lt-mul_left w (omega (arith, mul-suc w q, at, end, h)) in
      let same : j ≡ q = omega arith in
      rw same (subst (allowed q) (sym (result_at results q r)) is)
]

pub one_done : (w r q p : ℕ) (allowed : ℕ → ℕ → Type 0) (bytes after : List ℕ) → 0 < w → p ≡ w * q → ((i : ℕ) → i < w → get_or (bits after) (p + i) false ≡ bit r i) → ((k : ℕ) → (k < p) ⊎ (p + w ≤ k) → get_or (bits after) k false ≡ get_or (bits bytes) k false)
    → allowed q r → DoneBy w allowed bytes p → DoneBy w allowed after (p + w)
one_done w r q p allowed bytes after pos at written kept is done =
    let g = with_result done.0 q r in (
      g,
      more_allowed w r q p (p + w) allowed done.0 pos at (omega arith) is done.1,
      done_word w r q p g bytes after pos at written kept (ap (unnum w) (sym (result_at done.0 q r))) (done_same w q p done.0 g bytes pos at (result_before done.0 q r) done.2),
    )

pub last_done : (w r m len q p n : ℕ) (allowed : ℕ → ℕ → Type 0) (bytes after : List ℕ) → 0 < w → p ≡ w * q → p + len ≡ n → len < w → unnum w m ≡ take len (unnum w r) ++ replicate (w - len) false
    → ((i : ℕ) → i < len → get_or (bits after) (p + i) false ≡ bit m i) → ((k : ℕ) → k < p → get_or (bits after) k false ≡ get_or (bits bytes) k false)
    → allowed q r → DoneBy w allowed bytes p → DoneBy w allowed after n
last_done w r m len q p n allowed bytes after pos at end short masked written kept is done =
    let g = with_result done.0 q r in (
      g,
      more_allowed w r q p n allowed done.0 pos at (omega arith) is done.1,
      done_rest w r m len q p n g bytes after pos at end short masked written kept (ap (unnum w) (sym (result_at done.0 q r))) (done_same w q p done.0 g bytes pos at (result_before done.0 q r) done.2),
    )

-- all were written
pub all_joined : (w n : ℕ) (allowed : ℕ → ℕ → Type 0) (bytes : List ℕ) → 0 < w → n ≤ 8 * length bytes → DoneBy w allowed bytes n → AreJoinedResults w n allowed (take n (bits bytes))
all_joined w n allowed bytes pos spare done = (done.0, done.1, done_all w n done.0 bytes pos spare done.2)
