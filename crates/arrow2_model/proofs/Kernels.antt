-- Kernels, and how tables are kernels.
use Rattle.std.proofs.Common.{◌≡◌, ℕ, zero, suc, ◌+◌, ◌*◌, ◌/◌, ◌%◌, ◌<◌, List, [], ◌∷◌, Bool, false, length, get_or, map, refl, ap, sym, ◌∙◌, arith, ext_get_or, mul_comm}
use Rattle.std.specs.Int.{div_ceil}
use Rattle.std.specs.List.{range_with_len}
use Rattle.std.proofs.lemmas.List.FromFn.{length-map-range_with_len, get_or-map-range_with_len}
use Rattle.std.proofs.lemmas.Nat.{mod_below, div-add-mod', pow_pos}
use Rattle.arrow2_model.specs.Lists.{bit, unnum, num, part, words, word}
use Rattle.arrow2_model.specs.Kernels.{words_at, common_length, kernel, AreWords}
use Rattle.arrow2_model.specs.Tables.{answer, items_at, each, bits_at, IsBitwise}
use Rattle.arrow2_model.proofs.Bits.{length-unnum, get_or-unnum}
use Rattle.arrow2_model.proofs.Numbers.{bit-num, num-part-lt}
use Rattle.arrow2_model.proofs.Parts.{get_or-part}
use Rattle.arrow2_model.proofs.Words.{get_or-words}
use Rattle.arrow2_model.proofs.BitsOfWords.{length-joined, same_joined, get_or-joined}

pub word-item : (w : ℕ) (items : List Bool) (j : ℕ) → j < div_ceil (length items) w → get_or (words w items) j 0 ≡ word w items j
word-item w items j h = get_or-words w items j h

-- a bit of a word is an item of the list
pub bit-word : (w : ℕ) (items : List Bool) (k : ℕ) → 0 < w → bit (word w items (k / w)) (k % w) ≡ get_or items k false
bit-word w items k p =
    let i< : k % w < w = mod_below k w p in
    let at : w * (k / w) + k % w ≡ k = omega (arith, div-add-mod' k w, mul_comm w (k / w)) in
    bit-num (part items (w * (k / w)) w) (k % w) ∙ (get_or-part items (w * (k / w)) w (k % w) false i< ∙ ap (λ q. get_or items q false) at)

bits_of_words : (w : ℕ) (lists : List (List Bool)) (k : ℕ) → 0 < w → bits_at (words_at w lists (k / w)) (k % w) ≡ items_at lists k
bits_of_words w [] k p = refl
bits_of_words w (items ∷ lists) k p = rw (bit-word w items k p) (ap (λ t. get_or items k false ∷ t) (bits_of_words w lists k p))

pub length-each : (t : ℕ) (lists : List (List Bool)) → length (each t lists) ≡ common_length lists
unfolding each
length-each t lists = length-map-range_with_len (λ i. answer t (items_at lists i)) 0 (common_length lists)

pub get_or-each : (t : ℕ) (lists : List (List Bool)) (k : ℕ) → k < common_length lists → get_or (each t lists) k false ≡ answer t (items_at lists k)
unfolding each
get_or-each t lists k h = get_or-map-range_with_len (λ i. answer t (items_at lists i)) 0 (common_length lists) k k false h (omega arith)

-- a list of the outputs
pub each_from : (t : ℕ) (lists : List (List Bool)) (xs : List Bool) → length xs ≡ common_length lists → ((k : ℕ) → k < common_length lists → get_or xs k false ≡ answer t (items_at lists k)) → xs ≡ each t lists
each_from t lists xs l h =
    let m = length-each t lists in
    ext_get_or false xs (each t lists) (l ∙ sym m) (λ k k<. h k (omega (arith, l)) ∙ sym (get_or-each t lists k (omega (arith, l))))

-- the word of a table's outputs
abbrev pub table_word : ℕ → ℕ → List ℕ → ℕ
table_word w t xs = num (map (λ i. answer t (bits_at xs i)) (range_with_len 0 w))

bit-table_word : (w t : ℕ) (xs : List ℕ) (i : ℕ) → i < w → bit (table_word w t xs) i ≡ answer t (bits_at xs i)
bit-table_word w t xs i h =
    bit-num (map (λ i. answer t (bits_at xs i)) (range_with_len 0 w)) i ∙ get_or-map-range_with_len (λ i. answer t (bits_at xs i)) 0 w i i false h (omega arith)

-- a word whose output is bit by bit
pub table_outputs : (w t : ℕ) (xs : List ℕ) (r : ℕ) → ((i : ℕ) → i < w → bit r i ≡ answer t (bits_at xs i)) → unnum w r ≡ unnum w (table_word w t xs)
table_outputs w t xs r h =
    let l = length-unnum w r in
    let m = length-unnum w (table_word w t xs) in
    ext_get_or false (unnum w r) (unnum w (table_word w t xs)) (l ∙ sym m)
    (λ i i<. let lt : i < w = omega (arith, l) in get_or-unnum w r i false lt ∙ (h i lt ∙ sym (get_or-unnum w (table_word w t xs) i false lt ∙ bit-table_word w t xs i lt)))

pub length-kernel : (w : ℕ) (f : List ℕ → ℕ) (lists : List (List Bool)) → 0 < w → length (kernel w f lists) ≡ common_length lists
unfolding kernel
length-kernel w f lists p = length-joined w (λ j. f (words_at w lists j)) (common_length lists) p

kernel_at : (w t : ℕ) (lists : List (List Bool)) (k : ℕ) → 0 < w → k < common_length lists → get_or (kernel w (table_word w t) lists) k false ≡ answer t (items_at lists k)
unfolding kernel
kernel_at w t lists k p k< =
    get_or-joined w (λ j. table_word w t (words_at w lists j)) (common_length lists) k p k<
    ∙ (bit-table_word w t (words_at w lists (k / w)) (k % w) (mod_below k w p) ∙ ap (answer t) (bits_of_words w lists k p))

-- the kernel of a table's word function is the table item by item
pub kernel_of_table : (w t : ℕ) (lists : List (List Bool)) → 0 < w → kernel w (table_word w t) lists ≡ each t lists
kernel_of_table w t lists p = each_from t lists (kernel w (table_word w t) lists) (length-kernel w (table_word w t) lists p) (λ k k<. kernel_at w t lists k p k<)

-- ---- words that are paired

are_words : (w : ℕ) (lists : List (List Bool)) (j : ℕ) → AreWords w (words_at w lists j)
are_words w [] j k = pow_pos w
are_words w (items ∷ lists) j zero = num-part-lt w items (w * j)
are_words w (items ∷ lists) j (suc k) = are_words w lists j k

-- the kernel of a function that acts bit by bit, by one table
pub kernel-acts : (w t : ℕ) (f : List ℕ → ℕ) (lists : List (List Bool)) → 0 < w → IsBitwise t w f → kernel w f lists ≡ each t lists
unfolding kernel
kernel-acts w t f lists p acts =
    same_joined w (λ j. f (words_at w lists j)) (λ j. table_word w t (words_at w lists j)) (common_length lists) p
    (λ j. table_outputs w t (words_at w lists j) (f (words_at w lists j)) (λ i h. acts (words_at w lists j) i (are_words w lists j) h))
    ∙ kernel_of_table w t lists p

pub same_kernels : (v w t : ℕ) (f g : List ℕ → ℕ) (lists : List (List Bool)) → 0 < v → 0 < w → IsBitwise t v f → IsBitwise t w g → kernel v f lists ≡ kernel w g lists
same_kernels v w t f g lists p q a b = kernel-acts v t f lists p a ∙ sym (kernel-acts w t g lists q b)

pub ruleset kernels = (length-kernel, word-item, kernel-acts, same_kernels)
