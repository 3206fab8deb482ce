-- Comparisons by words of 64 bits.
use Rattle.std.proofs.Common.{◌≡◌, ◌↔◌, ℕ, ◌-◌, ◌*◌, ◌/◌, ◌^◌, ◌<◌, List, [], ◌++◌, Bool, false, take, replicate, length, ap, sym, ◌∙◌, arith}
use Rattle.std.proofs.lemmas.List.{take-append-le, length-drop, take_all, nil_from_length}
use Rattle.arrow2_model.specs.Lists.{full_words, rest, unnum, num}
use Rattle.arrow2_model.proofs.Numbers.{num-unnum}
use Rattle.arrow2_model.proofs.Words.{items_of_words, length-full_words}

wide : 0 < 64
wide = omega arith

-- two lists are equal just where their full words and their rests are
pub same_by_words : (xs ys : List Bool) → (full_words 64 xs ≡ full_words 64 ys) → (rest 64 xs ≡ rest 64 ys) → xs ≡ ys
same_by_words xs ys e f = sym (items_of_words 64 xs wide) ∙ (rw (e, f) (items_of_words 64 ys wide))

-- lists of one length have one number of full words
pub as_many_words : (xs ys : List Bool) → length xs ≡ length ys → length (full_words 64 xs) ≡ length (full_words 64 ys)
as_many_words xs ys e = length-full_words 64 xs ∙ (ap (λ n. n / 64) e ∙ sym (length-full_words 64 ys))

-- and as long a rest
pub as_long_rest : (xs ys : List Bool) → length xs ≡ length ys → length (rest 64 xs) ≡ length (rest 64 ys)
unfolding rest
as_long_rest xs ys e = length-drop (64 * (length xs / 64)) xs ∙ (ap (λ n. n - 64 * (n / 64)) e ∙ sym (length-drop (64 * (length ys / 64)) ys))

-- a masked word has the rest, followed by false
pub masked_rest : (x m len : ℕ) (r : List Bool) → take (length r) (unnum 64 x) ≡ r → len ≡ length r → unnum 64 m ≡ take len (unnum 64 x) ++ replicate (64 - len) false → unnum 64 m ≡ r ++ replicate (64 - len) false
masked_rest x m len r spilled size is = is ∙ ap (λ t. t ++ replicate (64 - len) false) (ap (λ n. take n (unnum 64 x)) size ∙ spilled)

-- masked words are the same just where the rests are
pub same_rests : (m n len : ℕ) (r s : List Bool) → m < 2 ^ 64 → n < 2 ^ 64 → length r ≡ len → length s ≡ len → unnum 64 m ≡ r ++ replicate (64 - len) false → unnum 64 n ≡ s ++ replicate (64 - len) false → (m ≡ n) ↔ (r ≡ s)
same_rests m n len r s m< n< lr ls em en = (
  λ h. sym (front r len (64 - len) lr) ∙ (ap (take len) (sym em ∙ (ap (unnum 64) h ∙ en)) ∙ front s len (64 - len) ls),
  λ h. sym (num-unnum 64 m m<) ∙ (ap num (em ∙ (ap (λ t. t ++ replicate (64 - len) false) h ∙ sym en)) ∙ num-unnum 64 n n<),
)
  where
    front : (r : List Bool) (n k : ℕ) → length r ≡ n → take n (r ++ replicate k false) ≡ r
    front r n k l = take-append-le n r (replicate k false) (omega (arith, l)) ∙ take_all n r (omega (arith, l))

-- at the end of both iterators, the masked words determine whether the lists are the same
pub ended_alike : (xs ys left right : List Bool) (m n len x y : ℕ) → length xs ≡ length ys → full_words 64 left ≡ [] → length (full_words 64 left) ≡ length (full_words 64 right)
    → (full_words 64 xs ≡ full_words 64 ys) ↔ (full_words 64 left ≡ full_words 64 right) → rest 64 left ≡ rest 64 xs → rest 64 right ≡ rest 64 ys
    → take (length (rest 64 left)) (unnum 64 x) ≡ rest 64 left → take (length (rest 64 right)) (unnum 64 y) ≡ rest 64 right → len ≡ length (rest 64 left)
    → unnum 64 m ≡ take len (unnum 64 x) ++ replicate (64 - len) false → unnum 64 n ≡ take len (unnum 64 y) ++ replicate (64 - len) false → m < 2 ^ 64 → n < 2 ^ 64
    → (m ≡ n) ↔ (xs ≡ ys)
ended_alike xs ys left right m n len x y size none many alike bl br sx sy is-len em en m< n< =
    let also : full_words 64 right ≡ [] = nil_from_length (full_words 64 right) (sym many ∙ ap length none) in
    let words : full_words 64 xs ≡ full_words 64 ys = alike.1 (none ∙ sym also) in
    let ll : length (rest 64 left) ≡ len = sym is-len in
    let lr : length (rest 64 right) ≡ len = ap length br ∙ (sym (as_long_rest xs ys size) ∙ (ap length (sym bl) ∙ ll)) in
    let both = same_rests m n len (rest 64 left) (rest 64 right) m< n< ll lr (masked_rest x m len (rest 64 left) sx is-len em) (masked_rest y n len (rest 64 right) sy (sym lr) en) in
    ((λ h. same_by_words xs ys words (sym bl ∙ (both.0 h ∙ br))), λ h. both.1 (bl ∙ (ap (rest 64) h ∙ sym br)))
