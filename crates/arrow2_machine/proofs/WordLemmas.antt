-- A list of booleans as words, one by one, and their text.
use Rattle.std.proofs.Common.{◌≡◌, ◌∙◌, sym, ap, refl, ℕ, zero, suc, ◌+◌, ◌-◌, ◌*◌, ◌<◌, ◌≤◌, ◌^◌, min, List, [], ◌∷◌, ◌++◌, Bool, true, false, take, drop, length, length-append, get_or, map, replicate, codes, append_assoc, append-nil, arith, decimal}
use Rattle.std.specs.Int.{div_ceil}
use Rattle.std.proofs.Math.Nat.{div-eq_of_lt, mod-eq_of_lt, div-eq-sub-div, mod-eq-sub-mod, zero-div, zero-mod, mul-suc, mul-zero}
use Rattle.std.proofs.lemmas.List.{length-drop, drop-drop, drop_at, ext_get_or, nil_from_length, take_all}
use Rattle.arrow2.specs.Lists.{num, unnum, words, full_words}
use Rattle.arrow2.proofs.Words.{length-unnum, num-filled, num-unnum, length-words, get_or-words, full_words-cons}
use Rattle.arrow2_machine.specs.Replies.{listed_word, words_text}
use Rattle.arrow2_machine.proofs.WordListLemmas.{led, text-led}

-- ---- the words of a list

-- no item, no word
pub no_word : (w : ℕ) (items : List Bool) → length items ≡ 0 → words w items ≡ []
no_word w items none =
    let l = length-words w items in
    let q = zero-div w in
    let r = zero-mod w in
    let count : div_ceil (length items) w ≡ 0 = rw none (rw (q, r) refl) in
    nil_from_length (words w items) (l ∙ count)

-- fewer items than a word has are one word
pub one_word : (w : ℕ) (items : List Bool) → 0 < length items → length items < w → words w items ≡ num items ∷ []
one_word w items some short =
    let l = length-words w items in
    let q = div-eq_of_lt short in
    let r = mod-eq_of_lt short in
    let least : min 1 (length items) ≡ 1 = grind (arith, some) in
    let count : div_ceil (length items) w ≡ 1 = rw (q, r, least) refl in
    ext_get_or 0 (words w items) (num items ∷ []) (l ∙ count) (λ j j<. at j (omega (arith, j<, l, count)))
  where
    at : (j : ℕ) → j < 1 → get_or (words w items) j 0 ≡ get_or (num items ∷ []) j 0
    at zero h =
        let first = get_or-words w items 0 (let l = length-words w items in let q = div-eq_of_lt short in let r = mod-eq_of_lt short in rw (q, r) (grind (arith, some))) in
        first ∙ rw (mul-zero w) (ap num (take_all w items (omega (arith, short))))
    at (suc j) h = absurd (omega (arith, h))

-- the first word, where there are enough items, and the others
pub first_word : (w : ℕ) (items : List Bool) → 0 < w → w ≤ length items → words w items ≡ num (take w items) ∷ words w (drop w items)
first_word w items p h =
    let d = length-drop w items in
    let a = length-words w items in
    let b = length-words w (drop w items) in
    let more = one_more_word in
    ext_get_or 0 (words w items) (num (take w items) ∷ words w (drop w items)) (omega (arith, a, b, more))
    (λ j j<. at j (omega (arith, a, j<)) (omega (arith, a, more, j<)))
  where
    one_more_word : div_ceil (length items) w ≡ div_ceil (length (drop w items)) w + 1
    one_more_word =
        let d = length-drop w items in
        let q = div-eq-sub-div p h in
        let r = mod-eq-sub-mod h in
        rw (d, q, r) (omega arith)

    at : (j : ℕ) → j < div_ceil (length items) w → j < div_ceil (length (drop w items)) w + 1 → get_or (words w items) j 0 ≡ get_or (num (take w items) ∷ words w (drop w items)) j 0
    at zero j< k = get_or-words w items 0 j< ∙ rw (mul-zero w) refl
    at (suc j) j< k =
        get_or-words w items (suc j) j< ∙ (ap (λ t. num (take w t)) (ap (λ n. drop n items) (omega (arith, mul-suc w j)) ∙ sym (drop-drop (w * j) w items))
        ∙ sym (get_or-words w (drop w items) j (omega (arith, k))))

-- a list that loses its first full word loses the first of its words
pub next_word : (w : ℕ) (items left : List Bool) (x : ℕ) → 0 < w → items ≡ unnum w x ++ left → full_words w items ≡ x ∷ full_words w left → words w items ≡ x ∷ words w left
next_word w items left x p split full =
    let long : w ≤ length items = omega (arith, ap length split, length-unnum w x, length-append (unnum w x) left) in
    let same : drop w items ≡ left = rw split (drop_at (unnum w x) left w (length-unnum w x)) in
    let first : num (take w items) ≡ x = heads (sym (full_words-cons w items p long) ∙ full) in
    first_word w items p long ∙ rw (first, same) refl
  where
    heads : {a b : ℕ} {s t : List ℕ} → a ∷ s ≡ b ∷ t → a ≡ b
    heads e = cc

-- the items after the last full word are one word, filled with false: the word in which they are stored, masked
pub last_word : (w n last spill : ℕ) (items following : List Bool) → 0 < n → n < w → n ≡ length following → following ≡ items → last < 2 ^ w → unnum w last ≡ take n (unnum w spill) ++ replicate (w - n) false → take (length following) (unnum w spill) ≡ following → words w items ≡ last ∷ []
last_word w n last spill items following some short is all fits masked stands =
    let one = one_word w following (omega (arith, some, is)) (omega (arith, short, is)) in
    let kept : take n (unnum w spill) ≡ following = ap (λ k. take k (unnum w spill)) is ∙ stands in
    let number : last ≡ num following = sym (num-unnum w last fits) ∙ ap num (masked ∙ ap (λ t. t ++ replicate (w - n) false) kept) ∙ num-filled following (w - n) in
    ap (words w) (sym all) ∙ one ∙ ap (λ x. x ∷ []) (sym number)

-- ---- their text

-- the text of the words still to be written, led by a space where some are there
abbrev pub pending : Bool → List (List ℕ) → List ℕ
pending true words = words_text words
pending false words = led words

-- one word more
one_more : (first : Bool) (word : List ℕ) (others : List (List ℕ)) → listed_word first word ++ led others ≡ pending first (word ∷ others)
one_more true word others = text-led word others
one_more false word others = refl

pub listed_next : (out new : List ℕ) (first : Bool) (x : ℕ) (xs others : List ℕ) → xs ≡ x ∷ others → new ≡ out ++ listed_word first (decimal x) → new ++ led (map decimal others) ≡ out ++ pending first (map decimal xs)
listed_next out new first x xs others e is =
    ap (λ t. t ++ led (map decimal others)) is ∙ append_assoc out (listed_word first (decimal x)) (led (map decimal others)) ∙ ap (λ t. out ++ t) (one_more first (decimal x) (map decimal others)) ∙ ap (λ ns. out ++ pending first (map decimal ns)) (sym e)

-- the last word
pub listed_last : (out new : List ℕ) (first : Bool) (x : ℕ) (xs : List ℕ) → xs ≡ x ∷ [] → new ≡ out ++ listed_word first (decimal x) → new ≡ out ++ pending first (map decimal xs)
listed_last out new first x xs e is = sym (append-nil new) ∙ listed_next out new first x xs [] e is

-- no word
pub listed_none : (out : List ℕ) (xs : List ℕ) → xs ≡ [] → out ++ codes "-" ≡ out ++ pending true (map decimal xs)
unfolding words_text
listed_none out xs e = rw e refl

pub listed_end : (out : List ℕ) (xs : List ℕ) → xs ≡ [] → out ≡ out ++ pending false (map decimal xs)
listed_end out xs e = rw e (sym (append-nil out))
