-- Words loaded from bytes.
use Rattle.std.proofs.Common.{◌≡◌, ℕ, ◌+◌, ◌-◌, ◌*◌, ◌^◌, ◌<◌, ◌≤◌, ◌||◌, List, ◌++◌, Bool, false, take, drop, replicate, length, get_or, ap, sym, ◌∙◌, arith}
use lib.Lanes.{zip2}
use Rattle.std.proofs.lemmas.List.{drop-replicate, length-drop, take_all}
use Rattle.arrow2_model.specs.Lists.{bit, unnum, bits, num, part}
use Rattle.arrow2_model.proofs.Bits.{length-bits}
use Rattle.arrow2_model.proofs.Bytes.{take-bits, part-bits, part-bits-drop}
use Rattle.arrow2_bits.proofs.WordMerges.{merged, num-zeros}
use Rattle.arrow2_model.proofs.Numbers.{bit-num, num-unnum}
use Rattle.arrow2_model.proofs.Parts.{get_or-part}

-- the first word
pub low_word : (bytes : List ℕ) (k w : ℕ) (xs : List Bool) → 8 * k ≡ w → k ≤ length bytes → xs ≡ bits (take k bytes) → xs ≡ part (bits bytes) 0 w
low_word bytes k w xs e h is = rw (← e) (is ∙ sym (take-bits bytes k h))

-- the word from the second byte on
pub high_word : (bytes : List ℕ) (k w : ℕ) (xs : List Bool) → 8 * k ≡ w → 1 + k ≤ length bytes → xs ≡ bits (take (1 + k - 1) (drop 1 bytes)) → xs ≡ part (bits bytes) 8 w
high_word bytes k w xs e h is =
    let m : 1 + k - 1 ≡ k = omega arith in
    rw (← e) (is ∙ (ap (λ n. bits (take n (drop 1 bytes))) m ∙ sym (part-bits bytes 1 k h)))

-- the word between them
pub merged_word : (bytes : List ℕ) (k w s : ℕ) (low high down up all : List Bool) → 8 * k ≡ w → 8 ≤ w → s < 8 → s + w ≤ 8 * length bytes → 1 + k ≤ length bytes
    → low ≡ bits (take k bytes) → high ≡ bits (take (1 + k - 1) (drop 1 bytes))
    → down ≡ drop s low ++ replicate s false → up ≡ replicate (8 - s) false ++ take (w - (8 - s)) high → all ≡ zip2 (λ a b. a || b) down up
    → all ≡ part (bits bytes) s w
merged_word bytes k w s low high down up all e wide s<8 h spare is-low is-high is-down is-up is =
    let l = length-bits bytes in
    let a = low_word bytes k w low e (omega arith) is-low in
    let b = high_word bytes k w high e spare is-high in
    is ∙ (rw (is-down, is-up) (merged (bits bytes) low high w s s<8 wide (omega (arith, l)) (omega (arith, l, e, spare)) a b))

-- the number of a word that was loaded
pub loaded_number : (w x : ℕ) (xs : List Bool) → x < 2 ^ w → unnum w x ≡ xs → x ≡ num xs
loaded_number w x xs fits is = sym (num-unnum w x fits) ∙ ap num is

-- the number of a word that was loaded from bytes followed by zeros
pub padded_number : (bytes copied : List ℕ) (w x s : ℕ) → x < 2 ^ w → copied ≡ bytes → unnum w x ≡ part (bits (copied ++ drop (length bytes) (replicate 16 0))) s w → x ≡ num (part (bits bytes) s w)
padded_number bytes copied w x s fits e is =
    loaded_number w x (part (bits (copied ++ drop (length bytes) (replicate 16 0))) s w) fits is
    ∙ (rw (e, drop-replicate {X = ℕ} (length bytes) 16 0) (num-zeros bytes (16 - length bytes) s w))

-- a bit of the word of a part of the bytes from one on
pub bit_of_part : (bytes : List ℕ) (w first shift offset position : ℕ) → w ≡ num (part (bits (take (length bytes - first) (drop first bytes))) shift 64) → first ≤ length bytes → 8 * first + shift ≡ offset + position
    → (i : ℕ) → i < 64 → bit w i ≡ get_or (bits bytes) (offset + (position + i)) false
bit_of_part bytes w first shift offset position is inside at i l =
    let n = length-drop first bytes in
    let all : take (length bytes - first) (drop first bytes) ≡ drop first bytes = take_all (length bytes - first) (drop first bytes) (omega (arith, n)) in
    let e : 8 * first + shift + i ≡ offset + (position + i) = omega (arith, at) in
    ap (λ x. bit x i) (is ∙ (ap (λ xs. num (part (bits xs) shift 64)) all ∙ ap num (part-bits-drop bytes first shift 64 inside))) ∙ (bit-num (part (bits bytes) (8 * first + shift) 64) i
    ∙ (get_or-part (bits bytes) (8 * first + shift) 64 i false l ∙ ap (λ t. get_or (bits bytes) t false) e))
