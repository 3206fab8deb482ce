-- Lanes of bytes bit by bit, and loops that write bytes over others.
use Rattle.std.proofs.Common.{◌≡◌, ℕ, suc, ◌+◌, ◌-◌, ◌*◌, ◌/◌, ◌%◌, ◌^◌, ◌<◌, ◌≤◌, ◌&&◌, List, [], ◌∷◌, ◌++◌, Bool, true, false, cond, map, length, get_or, take, drop, set, replicate, refl, ap, sym, subst, ◌∙◌, inl, inr, arith, bit_and, bit_xor, w8, Fits, take-add}
use mathlib.Core.Bool.{xor}
use lib.Lanes.{zip2, put_chunk, chunk}
use Rattle.std.proofs.lemmas.Bool.{cases_lt}
use borrow.Rule.Slice.PartMut.{put_mid}
use Rattle.arrow2_kernels.proofs.VectorWrites.{whole_written}
use Rattle.std.proofs.lemmas.List.{length-map, take_at, drop_at, drop_all, append-nil, length-append, length-drop, get_or_append_left, get_or-append_right, take-take, get_or-take, length-take-le, get_or-replicate, get_or_past, take_all}
use Rattle.std.proofs.lemmas.Simd.{length-put_chunk, get_or-zip2, get_or-chunk, get_or-put_chunk_below, get_or-put_chunk_at, get_or-put_chunk_above, mask_l-lt}
use Rattle.arrow2_model.specs.Lists.{bit, bits, num, unnum, IsCanonical}
use Rattle.arrow2_model.specs.Tables.{answer, each, items_at}
use Rattle.arrow2_model.proofs.Bytes.{take-bits}
use Rattle.arrow2_model.proofs.Bits.{bits-append, get_or-unnum, length-bits, get_or-bits_at}
use Rattle.arrow2_model.proofs.Canonical.{cut_within}
use Rattle.arrow2_model.proofs.Chunks.{unnum-mod, unnum-and, unnum-xor}
use Rattle.arrow2_model.proofs.Kernels.{each_from, length-each, get_or-each}
use Rattle.arrow2_model.proofs.Tables.{bit-zip2}

-- ---- lanes

xor_bit : (x y i : ℕ) → bit (bit_xor x y) i ≡ xor (bit x i) (bit y i)
xor_bit x y i = bit-zip2 (suc i) x y (bit_xor x y) i xor (unnum-xor (suc i) x y) (omega arith)

and_bit : (x y i : ℕ) → bit (bit_and x y) i ≡ (bit x i && bit y i)
and_bit x y i = bit-zip2 (suc i) x y (bit_and x y) i (λ a b. a && b) (unnum-and (suc i) x y) (omega arith)

lane : (f : ℕ → ℕ → ℕ) (a b : List ℕ) (k : ℕ) → k < length a → k < length b → get_or (zip2 f a b) k 0 ≡ f (get_or a k 0) (get_or b k 0)
lane f a b k p q = get_or-zip2 f a b k 0 0 0 p q

picked : (w y n : Bool) → xor n (w && xor y n) ≡ cond w y n
unfolding xor
picked true true true = refl
picked true true false = refl
picked true false true = refl
picked true false false = refl
picked false true true = refl
picked false true false = refl
picked false false true = refl
picked false false false = refl

-- a choice, lane by lane and bit by bit
pub chosen_lane : (which on off : List ℕ) (n k i : ℕ) → length which ≡ n → length on ≡ n → length off ≡ n → length (zip2 bit_xor on off) ≡ n → length (zip2 bit_and which (zip2 bit_xor on off)) ≡ n → k < n
    → bit (get_or (zip2 bit_xor off (zip2 bit_and which (zip2 bit_xor on off))) k 0) i ≡ cond (bit (get_or which k 0) i) (bit (get_or on k 0) i) (bit (get_or off k 0) i)
chosen_lane which on off n k i lw ly ln ld lm h =
    let w : ℕ = get_or which k 0 in
    let y : ℕ = get_or on k 0 in
    let o : ℕ = get_or off k 0 in
    let d : get_or (zip2 bit_xor on off) k 0 ≡ bit_xor y o = lane bit_xor on off k (omega arith) (omega arith) in
    let m : get_or (zip2 bit_and which (zip2 bit_xor on off)) k 0 ≡ bit_and w (bit_xor y o) = lane bit_and which (zip2 bit_xor on off) k (omega arith) (omega arith) ∙ ap (bit_and w) d in
    let r : get_or (zip2 bit_xor off (zip2 bit_and which (zip2 bit_xor on off))) k 0 ≡ bit_xor o (bit_and w (bit_xor y o)) = lane bit_xor off (zip2 bit_and which (zip2 bit_xor on off)) k (omega arith) (omega arith) ∙ ap (bit_xor o) m in
    ap (λ v. bit v i) r
    ∙ (xor_bit o (bit_and w (bit_xor y o)) i
    ∙ (ap (xor (bit o i)) (and_bit w (bit_xor y o) i ∙ ap (λ b. bit w i && b) (xor_bit y o i)) ∙ picked (bit w i) (bit y i) (bit o i)))

all_set : unnum 8 255 ≡ replicate 8 true
unfolding unnum
all_set = refl

none_set : unnum 8 0 ≡ replicate 8 false
unfolding unnum
none_set = refl

pub filled_true : (n k i : ℕ) → k < n → i < 8 → bit (get_or (replicate n 255) k 0) i ≡ true
filled_true n k i h g = ap (λ v. bit v i) (get_or-replicate n k 255 0 h) ∙ (sym (get_or-unnum 8 255 i false g) ∙ (ap (λ (b : List Bool). get_or b i false) all_set ∙ get_or-replicate 8 i true false g))

pub filled_false : (n k i : ℕ) → k < n → i < 8 → bit (get_or (replicate n 0) k 0) i ≡ false
filled_false n k i h g = ap (λ v. bit v i) (get_or-replicate n k 0 0 h) ∙ (sym (get_or-unnum 8 0 i false g) ∙ (ap (λ (b : List Bool). get_or b i false) none_set ∙ get_or-replicate 8 i false false g))

-- ---- a loop that writes byte by byte, or lane by lane

-- bit i of byte j of each list
abbrev pub bits_of_bytes : List (List ℕ) → ℕ → ℕ → List Bool
bits_of_bytes lists j i = map (λ bytes. bit (get_or bytes j 0) i) lists

-- byte j of the outputs acts by table t on byte j of each list
abbrev pub Acts : ℕ → List (List ℕ) → List ℕ → ℕ → Type 0
Acts t lists bytes j = (i : ℕ) → i < 8 → bit (get_or bytes j 0) i ≡ answer t (bits_of_bytes lists j i)

-- the first p bytes are written, and the others are as they were
pub record Written (P : List ℕ → ℕ → Type 0) (old bytes : List ℕ) (p : ℕ) : Type 0 where
  pub size : length bytes ≡ length old
  pub done : (j : ℕ) → j < p → P bytes j
  pub kept : (j : ℕ) → p ≤ j → get_or bytes j 0 ≡ get_or old j 0

bits_of_chunks : (lists : List (List ℕ)) (p k i : ℕ) → k < 32 → bits_of_bytes (map (chunk p 32) lists) k i ≡ bits_of_bytes lists (p + k) i
bits_of_chunks [] p k i h = refl
bits_of_chunks (bytes ∷ lists) p k i h =
    ap (λ x. bit x i ∷ bits_of_bytes (map (chunk p 32) lists) k i) (get_or-chunk p 32 bytes k 0 h) ∙ ap (λ (bs : List Bool). bit (get_or bytes (p + k) 0) i ∷ bs) (bits_of_chunks lists p k i h)

-- 32 bytes more
pub lanes_written : (t t' p q : ℕ) (old bytes v : List ℕ) (others : List (List ℕ)) → t' ≡ t → q ≡ p + 32 → q ≤ length old → length v ≡ 32
    → ((k i : ℕ) → k < 32 → i < 8 → bit (get_or v k 0) i ≡ answer t' (bits_of_bytes (map (chunk p 32) (bytes ∷ others)) k i))
    → Written (Acts t (old ∷ others)) old bytes p → Written (Acts t (old ∷ others)) old (put_chunk p bytes v) q
lanes_written t t' p q old bytes v others same e inside lv acts w =
    let s = w.size in
    record {
      size = length-put_chunk p bytes v ∙ s;
      done = λ j h i g. elim (cases_lt j p) [
        | inl lt ↦ ap (λ x. bit x i) (get_or-put_chunk_below p bytes v j 0 lt) ∙ w.done j lt i g
        | inr ge ↦
            let k : ℕ = j - p in
            let k< : k < 32 = omega arith in
            let at : p + k ≡ j = omega arith in
            let x : get_or (put_chunk p bytes v) j 0 ≡ get_or v k 0 = ap (λ z. get_or (put_chunk p bytes v) z 0) (sym at) ∙ get_or-put_chunk_at p bytes v k 0 (omega arith) (omega arith) in
            ap (λ z. bit z i) x ∙ (acts k i k< g ∙ (ap (answer t') (bits_of_chunks (bytes ∷ others) p k i k<)
            ∙ (ap (λ z. answer t' (bits_of_bytes (bytes ∷ others) z i)) at ∙ (ap (λ z. answer t' (bit z i ∷ bits_of_bytes others j i)) (w.kept j ge) ∙ ap (λ z. answer z (bits_of_bytes (old ∷ others) j i)) same))))
      ];
      kept = λ j h. get_or-put_chunk_above p bytes v j 0 (omega arith) ∙ w.kept j (omega arith);
    }

-- each list has at least n bytes
abbrev pub HaveBytes : ℕ → List (List ℕ) → Type 0
HaveBytes n [] = Unit {0}
HaveBytes n (bytes ∷ lists) = (n ≤ length bytes) × HaveBytes n lists

items_of_bytes : (n : ℕ) (lists : List (List ℕ)) (k : ℕ) → HaveBytes n lists → k < 8 * n → items_at (map (λ bytes. take (8 * n) (bits bytes)) lists) k ≡ bits_of_bytes lists (k / 8) (k % 8)
items_of_bytes n [] k have h = refl
items_of_bytes n (bytes ∷ lists) k have h =
    ap (λ b. b ∷ items_at (map (λ (bs : List ℕ). take (8 * n) (bits bs)) lists) k) (get_or-take (8 * n) (bits bytes) k false h ∙ get_or-bits_at bytes k false (omega (arith, have.0)))
    ∙ ap (λ (bs : List Bool). bit (get_or bytes (k / 8) 0) (k % 8) ∷ bs) (items_of_bytes n lists k have.1 h)

-- all bytes were written
pub all_written : (t : ℕ) (old bytes : List ℕ) (others : List (List ℕ)) → HaveBytes (length old) others → Written (Acts t (old ∷ others)) old bytes (length old)
    → bits bytes ≡ each t (bits old ∷ map (λ other. take (8 * length old) (bits other)) others)
all_written t old bytes others have w =
    let l = length-bits bytes in
    let o = length-bits old in
    let cut : List (List Bool) = map (λ (other : List ℕ). take (8 * length old) (bits other)) others in
    each_from t (bits old ∷ cut) (bits bytes) (omega (arith, l, o, w.size))
    (λ k h.
    let k< : k < 8 * length old = omega (arith, o) in
    get_or-bits_at bytes k false (omega (arith, w.size)) ∙ (w.done (k / 8) (omega arith) (k % 8) (omega arith)
    ∙ (ap (λ z. answer t (z ∷ bits_of_bytes others (k / 8) (k % 8))) (sym (get_or-bits_at old k false k<))
    ∙ ap (λ (bs : List Bool). answer t (get_or (bits old) k false ∷ bs)) (sym (items_of_bytes (length old) others k have k<)))))

-- ---- the first items of the outputs

items-take : (n : ℕ) (lists : List (List Bool)) (k : ℕ) → k < n → items_at (map (take n) lists) k ≡ items_at lists k
items-take n [] k h = refl
items-take n (xs ∷ lists) k h =
    ap (λ b. b ∷ items_at (map (take n) lists) k) (get_or-take n xs k false h) ∙ ap (λ (bs : List Bool). get_or xs k false ∷ bs) (items-take n lists k h)

pub take-each : (t n : ℕ) (xs : List Bool) (lists : List (List Bool)) → n ≤ length xs → take n (each t (xs ∷ lists)) ≡ each t (take n xs ∷ map (take n) lists)
take-each t n xs lists h =
    let e = length-each t (xs ∷ lists) in
    let a = length-take-le n (each t (xs ∷ lists)) (omega (arith, e)) in
    let b = length-take-le n xs h in
    each_from t (map (take n) (xs ∷ lists)) (take n (each t (xs ∷ lists))) (omega (arith, a, b))
    (λ k k<.
    let k<n : k < n = omega (arith, b) in
    get_or-take n (each t (xs ∷ lists)) k false k<n ∙ (get_or-each t (xs ∷ lists) k (omega arith) ∙ ap (answer t) (sym (items-take n (xs ∷ lists) k k<n))))

-- ---- padding bits

abbrev pub AreBytes : List ℕ → Type 0
AreBytes bytes = (i : ℕ) → Fits w8 (get_or bytes i 0)

pub spare_none : (bytes : List ℕ) (n : ℕ) → length bytes ≡ (n + 7) / 8 → n % 8 ≡ 0 → AreBytes bytes → IsCanonical bytes n
spare_none bytes n e whole fits = record {
  fits = λ k. let f = (fits k).fits in f;
  exact = e;
  clear = λ k h. let l = length-bits bytes in get_or_past (bits bytes) k false (omega (arith, l));
}

pub spare_cleared : (bytes after : List ℕ) (n x : ℕ) → length bytes ≡ (n + 7) / 8 → 0 < n % 8 → x ≡ get_or bytes (n / 8) 0 % 2 ^ (n % 8) → after ≡ set bytes (n / 8) x → AreBytes after → IsCanonical after n × (take n (bits after) ≡ take n (bits bytes))
spare_cleared bytes after n x e some is was fits =
    let all : take ((n + 7) / 8) bytes ≡ bytes = take_all ((n + 7) / 8) bytes (omega arith) in
    let cut = cut_within bytes n x (omega arith) some (is ∙ ap (λ (b : List ℕ). get_or b (n / 8) 0 % 2 ^ (n % 8)) (sym all)) (λ k. rw (all, ← was) (fits k).fits) in
    let same : set (take ((n + 7) / 8) bytes) (n / 8) x ≡ after = ap (λ (b : List ℕ). set b (n / 8) x) all ∙ sym was in
    (subst (λ (b : List ℕ). IsCanonical b n) same cut.0, ap (λ (b : List ℕ). take n (bits b)) (sym same) ∙ cut.1)

-- the bits of a copy of the bytes that hold them
pub front_bits : (bytes front : List ℕ) (n m : ℕ) → n ≤ 8 * length bytes → m ≡ (n + 7) / 8 → front ≡ take m bytes → take n (bits front) ≡ take n (bits bytes)
front_bits bytes front n m h e is =
    let shorter = take-take n (8 * m) (bits bytes) (omega (arith, e)) in
    ap (λ (b : List ℕ). take n (bits b)) is ∙ (ap (take n) (sym (take-bits bytes m (omega (arith, e)))) ∙ shorter)

-- ---- tables whose lowest bits are read

low_table : (w t i : ℕ) → i < w → bit (t % 2 ^ w) i ≡ bit t i
low_table w t i h = sym (get_or-unnum w (t % 2 ^ w) i false h) ∙ (ap (λ (b : List Bool). get_or b i false) (unnum-mod w t) ∙ get_or-unnum w t i false h)

-- a table of n inputs is the one of its 2 ^ n lowest bits
pub same_table : (t u : ℕ) (lists : List (List Bool)) → t % 2 ^ (2 ^ length lists) ≡ u → each u lists ≡ each t lists
same_table t u lists e =
    each_from t lists (each u lists) (length-each u lists)
    (λ k h.
    let inputs : List Bool = items_at lists k in
    let small = mask_l-lt inputs in
    let count = length-map lists (λ items. get_or items k false) in
    get_or-each u lists k h ∙ (ap (λ z. answer z inputs) (sym e) ∙ low_table (2 ^ length lists) t (num inputs) (subst (λ n. num inputs < 2 ^ n) count small)))

-- ---- outputs that are appended

pub each-append : (t : ℕ) (a b d e : List Bool) → length a ≡ length d → length b ≡ length e → each t ((a ++ b) ∷ (d ++ e) ∷ []) ≡ each t (a ∷ d ∷ []) ++ each t (b ∷ e ∷ [])
each-append t a b d e l m =
    let front : List Bool = each t (a ∷ d ∷ []) in
    let back : List Bool = each t (b ∷ e ∷ []) in
    let f = length-each t (a ∷ d ∷ []) in
    let g = length-each t (b ∷ e ∷ []) in
    let n = length-append a b in
    sym (each_from t ((a ++ b) ∷ (d ++ e) ∷ []) (front ++ back) (omega (arith, length-append front back, f, g, n))
    (λ k h. elim (cases_lt k (length a)) [
      | inl lt ↦
          get_or_append_left front back false k (omega (arith, f)) ∙ (get_or-each t (a ∷ d ∷ []) k lt
          ∙ (ap (λ z. answer t (z ∷ get_or d k false ∷ [])) (sym (get_or_append_left a b false k lt))
          ∙ ap (λ z. answer t (get_or (a ++ b) k false ∷ z ∷ [])) (sym (get_or_append_left d e false k (omega arith)))))
      | inr ge ↦
          let i : ℕ = k - length a in
          get_or-append_right front back (length a) k false f ge ∙ (get_or-each t (b ∷ e ∷ []) i (omega (arith, n))
          ∙ (ap (λ z. answer t (z ∷ get_or e i false ∷ [])) (sym (get_or-append_right a b (length a) k false refl ge))
          ∙ ap (λ z. answer t (get_or (a ++ b) k false ∷ z ∷ [])) (sym (get_or-append_right d e (length a) k false (sym l) ge))))
    ]))

-- one block more
pub block_more : (t p n : ℕ) (left right before after : List ℕ) → length left ≡ length right → p + n ≤ length left → bits before ≡ each t (bits (take p left) ∷ bits (take p right) ∷ [])
    → bits after ≡ bits before ++ each t (bits (take n (drop p left)) ∷ bits (take n (drop p right)) ∷ []) → bits after ≡ each t (bits (take (p + n) left) ∷ bits (take (p + n) right) ∷ [])
block_more t p n left right before after l inside done more =
    let a = length-bits (take p left) in
    let b = length-bits (take p right) in
    let d = length-bits (take n (drop p left)) in
    let e = length-bits (take n (drop p right)) in
    let ta = length-take-le p left (omega arith) in
    let tb = length-take-le p right (omega arith) in
    let da = length-drop p left in
    let db = length-drop p right in
    let td = length-take-le n (drop p left) (omega (arith, da)) in
    let te = length-take-le n (drop p right) (omega (arith, db)) in
    let split : (xs : List ℕ) → bits (take p xs) ++ bits (take n (drop p xs)) ≡ bits (take (p + n) xs) = λ xs. sym (ap bits (take-add p n xs) ∙ bits-append (take p xs) (take n (drop p xs))) in
    more ∙ (ap (λ z. z ++ each t (bits (take n (drop p left)) ∷ bits (take n (drop p right)) ∷ [])) done
    ∙ (sym (each-append t (bits (take p left)) (bits (take n (drop p left))) (bits (take p right)) (bits (take n (drop p right))) (omega (arith, a, b, ta, tb)) (omega (arith, d, e, td, te)))
    ∙ (ap (λ z. each t (z ∷ (bits (take p right) ++ bits (take n (drop p right))) ∷ [])) (split left) ∙ ap (λ z. each t (bits (take (p + n) left) ∷ z ∷ [])) (split right))))

pub no_block : (t : ℕ) (left right before : List ℕ) → before ≡ [] → bits before ≡ each t (bits (take 0 left) ∷ bits (take 0 right) ∷ [])
no_block t left right before e = each_from t (bits (take 0 left) ∷ bits (take 0 right) ∷ []) (bits before) (ap (λ (b : List ℕ). length (bits b)) e) (λ k h. absurd (omega (arith, length-bits (take 0 left), h)))

-- the items that were written to the end of a vector
pub tail_written : (old more ys xs items : List ℕ) (at len : ℕ) → xs ≡ items → items ≡ old ++ more → at ≡ length old → length ys ≡ length more → len ≡ length items
    → take len (put_mid at (length xs - at) xs ys ++ drop (length (put_mid at (length xs - at) xs ys)) items) ≡ old ++ ys
tail_written old more ys xs items at len e was is size all =
    let n = length-append old more in
    let k : length xs - at ≡ length more = omega (arith, ap length e, ap length was, n) in
    let front : take at xs ≡ old = ap (take at) (e ∙ was) ∙ take_at old more at (sym is) in
    let following : drop (length xs - at) (drop at xs) ≡ [] = drop_all (length xs - at) (drop at xs) (omega (arith, length-drop at xs)) in
    let whole : put_mid at (length xs - at) xs ys ≡ old ++ ys = ap (λ (b : List ℕ). b ++ (ys ++ drop (length xs - at) (drop at xs))) front ∙ ap (λ (b : List ℕ). old ++ b) (ap (λ (b : List ℕ). ys ++ b) following ∙ append-nil ys) in
    whole_written items (put_mid at (length xs - at) xs ys) len all (ap length whole ∙ omega (arith, length-append old ys, n, size, ap length was)) ∙ whole

pub appended : (t : ℕ) (left right : List ℕ) → length left ≡ length right → each t (bits left ∷ take (8 * length left) (bits right) ∷ []) ≡ each t (bits left ∷ bits right ∷ [])
appended t left right e = ap (λ b. each t (bits left ∷ b ∷ [])) (take_all (8 * length left) (bits right) (omega (arith, length-bits right, e)))

pub tail_is : (old more xs : List ℕ) (at : ℕ) → xs ≡ old ++ more → at ≡ length old → take (length xs - at) (drop at xs) ≡ more
tail_is old more xs at was is =
    let n = length-append old more in
    let d : drop at xs ≡ more = ap (drop at) was ∙ drop_at old more at (sym is) in
    ap (take (length xs - at)) d ∙ take_all (length xs - at) more (omega (arith, ap length was, n))

-- a block that was written over its copy
pub block_written : (t : ℕ) (old left right ys xs items after : List ℕ) (at len : ℕ) → length left ≡ length right → xs ≡ items → items ≡ old ++ left → at ≡ length old → len ≡ length items → length ys ≡ length (take (length xs - at) (drop at xs))
    → bits ys ≡ each t (bits (take (length xs - at) (drop at xs)) ∷ take (8 * length (take (length xs - at) (drop at xs))) (bits right) ∷ [])
    → bits (take len (put_mid at (length xs - at) xs ys ++ drop (length (put_mid at (length xs - at) xs ys)) items)) ≡ bits old ++ each t (bits left ∷ bits right ∷ [])
block_written t old left right ys xs items after at len same_lengths e was is all size results =
    let part = tail_is old left xs at (e ∙ was) is in
    ap bits (tail_written old left ys xs items at len e was is (size ∙ ap length part) all)
    ∙ (bits-append old ys ∙ ap (λ (b : List Bool). bits old ++ b) (results ∙ (ap (λ (p : List ℕ). each t (bits p ∷ take (8 * length p) (bits right) ∷ [])) part ∙ appended t left right same_lengths)))

-- exactly the bytes that hold the outputs
pub length-results : (t n m : ℕ) (left right bytes : List ℕ) → n ≤ 8 * length left → m ≡ (n + 7) / 8 → bits bytes ≡ each t (bits (take m left) ∷ bits (take m right) ∷ []) → length bytes ≡ (n + 7) / 8
length-results t n m left right bytes h e is =
    let a = length-bits bytes in
    let b = length-bits (take m left) in
    let d = length-take-le m left (omega (arith, e)) in
    let f = length-each t (bits (take m left) ∷ bits (take m right) ∷ []) in
    omega (arith, a, b, d, e, ap length is ∙ f)

-- the first of them
pub first_results : (t n m : ℕ) (left right bytes : List ℕ) → n ≤ 8 * length left → n ≤ 8 * length right → m ≡ (n + 7) / 8 → bits bytes ≡ each t (bits (take m left) ∷ bits (take m right) ∷ []) → take n (bits bytes) ≡ each t (take n (bits left) ∷ take n (bits right) ∷ [])
first_results t n m left right bytes h g e is =
    let a = length-bits (take m left) in
    let b = length-bits (take m right) in
    let d = length-take-le m left (omega (arith, e)) in
    let f = length-take-le m right (omega (arith, e)) in
    ap (take n) is ∙ (take-each t n (bits (take m left)) (bits (take m right) ∷ []) (omega (arith, a, d, e))
    ∙ (ap (λ z. each t (z ∷ take n (bits (take m right)) ∷ [])) (front_bits left (take m left) n m h e refl)
    ∙ ap (λ z. each t (take n (bits left) ∷ z ∷ [])) (front_bits right (take m right) n m g e refl)))
