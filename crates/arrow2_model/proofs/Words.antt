-- Words of a list.
use Rattle.std.proofs.Common.{◌≡◌, ℕ, zero, suc, ◌+◌, ◌-◌, ◌*◌, ◌/◌, ◌<◌, ◌≤◌, List, [], ◌∷◌, ◌++◌, Bool, take, drop, length, get_or, inl, inr, refl, ap, sym, ◌∙◌, arith, flat_map}
use Rattle.std.proofs.lemmas.Bool.{cases_lt}
use Rattle.std.specs.Int.{div_ceil}
use Rattle.std.proofs.lemmas.List.FromFn.{length-map-range_with_len, get_or-map-range_with_len}
use Rattle.arrow2_model.specs.Lists.{num, unnum, part, words, full_words, rest}
use Rattle.arrow2_model.proofs.Numbers.{unnum-num}
use Rattle.std.proofs.Math.Nat.{div-eq_of_lt, div-eq-sub-div, mul-suc, mul-add, mul-zero, zero-mul, lt-div-mul-add, lt-mul-div-succ}
use Rattle.std.proofs.lemmas.List.{length-take-le, get_or-take, length-drop, drop-drop, ext_get_or, nil_from_length, append_assoc, take-append-drop}

pub length-words : (w : ℕ) (items : List Bool) → length (words w items) ≡ div_ceil (length items) w
length-words w items = length-map-range_with_len (λ j. num (part items (w * j) w)) 0 (div_ceil (length items) w)

pub get_or-words : (w : ℕ) (items : List Bool) (j : ℕ) → j < div_ceil (length items) w → get_or (words w items) j 0 ≡ num (part items (w * j) w)
get_or-words w items j h = get_or-map-range_with_len (λ j. num (part items (w * j) w)) 0 (div_ceil (length items) w) j j 0 h (omega arith)

-- ---- full words, and the rest

pub length-full_words : (w : ℕ) (items : List Bool) → length (full_words w items) ≡ length items / w
unfolding full_words
length-full_words w items =
    let l = length-words w items in
    length-take-le (length items / w) (words w items) (omega (arith, l))

pub get_or-full_words : (w : ℕ) (items : List Bool) (j : ℕ) → j < length items / w → get_or (full_words w items) j 0 ≡ num (part items (w * j) w)
unfolding full_words
get_or-full_words w items j h = get_or-take (length items / w) (words w items) j 0 h ∙ get_or-words w items j (omega arith)

-- fewer items than a word
pub full_words-none : (w : ℕ) (items : List Bool) → length items < w → full_words w items ≡ []
full_words-none w items h =
    let l = length-full_words w items in
    let z = div-eq_of_lt h in
    nil_from_length (full_words w items) (omega (arith, l, z))

pub rest-none : (w : ℕ) (items : List Bool) → length items < w → rest w items ≡ items
unfolding rest
rest-none w items h = let z = div-eq_of_lt h in rw (z, mul-zero w) refl

-- the first full word, and the others
pub full_words-cons : (w : ℕ) (items : List Bool) → 0 < w → w ≤ length items → full_words w items ≡ num (take w items) ∷ full_words w (drop w items)
full_words-cons w items p h =
    let q = div-eq-sub-div p h in
    let d = length-drop w items in
    let a = length-full_words w items in
    let b = length-full_words w (drop w items) in
    let same : length (drop w items) / w ≡ (length items - w) / w = ap (λ n. n / w) d in
    ext_get_or 0 (full_words w items) (num (take w items) ∷ full_words w (drop w items)) (omega (arith, a, b, q, same))
    (λ j j<. word_at j (omega (arith, a)) (omega (arith, a, q, same)))
  where
    word_at : (j : ℕ) → j < length items / w → j < length (drop w items) / w + 1 → get_or (full_words w items) j 0 ≡ get_or (num (take w items) ∷ full_words w (drop w items)) j 0
    word_at zero j< k = get_or-full_words w items 0 j< ∙ rw (mul-zero w) refl
    word_at (suc j) j< k =
        get_or-full_words w items (suc j) j< ∙ (ap (λ t. num (take w t)) (ap (λ n. drop n items) (omega (arith, mul-suc w j)) ∙ sym (drop-drop (w * j) w items))
        ∙ sym (get_or-full_words w (drop w items) j (omega arith)))

pub rest-drop : (w : ℕ) (items : List Bool) → 0 < w → w ≤ length items → rest w (drop w items) ≡ rest w items
unfolding rest
rest-drop w items p h =
    let q = div-eq-sub-div p h in
    let d = length-drop w items in
    drop-drop (w * (length (drop w items) / w)) w items
    ∙ ap (λ n. drop n items) (let e : length (drop w items) / w ≡ (length items - w) / w = ap (λ n. n / w) d in rw (e, q) (omega (arith, mul-add w ((length items - w) / w) 1)))

-- ---- a list from its words

no_word : (n w : ℕ) → 0 < w → n / w ≡ 0 → n < w
no_word n w p z = let h = lt-div-mul-add {a = n} p in let m : n / w * w ≡ 0 = rw z (zero-mul w) in omega (arith, h, m)

some_word : (n w m : ℕ) → 0 < w → n / w ≡ suc m → (w ≤ n) × ((n - w) / w ≡ m)
some_word n w m p e =
    let h : w ≤ n = elim (cases_lt n w) [
      | inl lt ↦ let z = div-eq_of_lt lt in absurd (omega (arith, z, e))
      | inr ge ↦ ge
    ] in
    let q = div-eq-sub-div p h in
    (h, omega (arith, q, e))

words_then_rest : (m w : ℕ) (items : List Bool) → 0 < w → length items / w ≡ m → flat_map (unnum w) (full_words w items) ++ rest w items ≡ items
words_then_rest zero w items p e =
    let short = no_word (length items) w p e in
    rw (full_words-none w items short, rest-none w items short) refl
words_then_rest (suc m) w items p e =
    let some = some_word (length items) w m p e in
    let d = length-drop w items in
    let ih = words_then_rest m w (drop w items) p (ap (λ n. n / w) d ∙ some.1) in
    let lt = length-take-le w items some.0 in
    let first : unnum w (num (take w items)) ≡ take w items = ap (λ n. unnum n (num (take w items))) (sym lt) ∙ unnum-num (take w items) in
    rw (full_words-cons w items p some.0, ← rest-drop w items p some.0, first)
    (append_assoc (take w items) (flat_map (unnum w) (full_words w (drop w items))) (rest w (drop w items)) ∙ (ap (λ t. take w items ++ t) ih ∙ take-append-drop w items))

-- the items of the full words, and the rest
pub items_of_words : (w : ℕ) (items : List Bool) → 0 < w → flat_map (unnum w) (full_words w items) ++ rest w items ≡ items
items_of_words w items p = words_then_rest (length items / w) w items p refl

-- a list that loses its first full word is the bits of that word and the list that is left
pub first_word-append : (w : ℕ) (items left : List Bool) (x : ℕ) → 0 < w → full_words w items ≡ x ∷ full_words w left → rest w left ≡ rest w items → items ≡ unnum w x ++ left
first_word-append w items left x p first following =
    sym (items_of_words w items p)
    ∙ (ap (λ ws. flat_map (unnum w) ws ++ rest w items) first
    ∙ (append_assoc (unnum w x) (flat_map (unnum w) (full_words w left)) (rest w items)
    ∙ ap (λ t. unnum w x ++ t) (ap (λ r. flat_map (unnum w) (full_words w left) ++ r) (sym following) ∙ items_of_words w left p)))

-- a list without a full word is its rest
pub rest-whole : (w : ℕ) (items : List Bool) → 0 < w → full_words w items ≡ [] → rest w items ≡ items
rest-whole w items p none = ap (λ ws. flat_map (unnum w) ws ++ rest w items) (sym none) ∙ items_of_words w items p

pub length-rest : (w : ℕ) (items : List Bool) → 0 < w → length (rest w items) < w
unfolding rest
length-rest w items p =
    let d = length-drop (w * (length items / w)) items in
    let q = lt-mul-div-succ (length items) p in
    let m = mul-suc w (length items / w) in
    let e : length items / w + 1 ≡ suc (length items / w) = omega arith in
    omega (arith, d, m, ap (λ n. w * n) e, q)

pub ruleset by_words = (items_of_words, first_word-append, rest-whole, length-rest)
