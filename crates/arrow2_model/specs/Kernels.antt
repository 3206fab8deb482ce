-- Word functions on lists of booleans: each list is read as words of some width, the last one filled with false, and
-- the bits of the results are a list again (Arrow columnar format, "Validity bitmaps": a computation by words has to
-- specify what it does with the bits after the last item).
use Rattle.std.specs.Prelude.{◌≡◌, ℕ, ◌<◌, ◌^◌, List, [], ◌∷◌, Bool, map, take, length, slice_index, slice_index_or}
use Rattle.std.specs.List.{flat_map, range_with_len}
use Rattle.std.specs.Int.{div_ceil}
use Rattle.arrow2_model.specs.Lists.{unnum, word}

-- word j of each list
abbrev pub words_at : ℕ → List (List Bool) → ℕ → List ℕ
words_at w lists j = map (λ items. word w items j) lists

-- the length of the first list, which is the length of each list where all have equal lengths
abbrev pub common_length : List (List Bool) → ℕ
common_length lists = length (slice_index_or lists 0 [])

-- the first n of the bits of the words at indices 0, 1 and so on, w bits a word
unfoldable pub bits_of_words : ℕ → (ℕ → ℕ) → ℕ → List Bool
bits_of_words w word_of n = take n (flat_map (λ j. unnum w (word_of j)) (range_with_len 0 (div_ceil n w)))

-- the first n of the bits of the results of f, w bits a result: result j is that for word j of `own` and row j
abbrev pub own_kernel : ℕ → (List ℕ → ℕ) → List Bool → (ℕ → List ℕ) → ℕ → List Bool
own_kernel w f own row n = bits_of_words w (λ j. f (word w own j ∷ row j)) n

-- the list that the word function f gives for lists of equal length: the bits of its result for word 0 of each list,
-- then the bits of its result for word 1 of each list, and so on, cut to the length of the lists
unfoldable pub kernel : ℕ → (List ℕ → ℕ) → List (List Bool) → List Bool
kernel w f lists = bits_of_words w (λ j. f (words_at w lists j)) (common_length lists)

-- the same of a word function of one word, of two, of three and of four
unfoldable pub unary_kernel : ℕ → (ℕ → ℕ) → List Bool → List Bool
unary_kernel w f a = kernel w (λ xs. f (slice_index xs 0)) (a ∷ [])

unfoldable pub binary_kernel : ℕ → (ℕ → ℕ → ℕ) → List Bool → List Bool → List Bool
binary_kernel w f a b = kernel w (λ xs. f (slice_index xs 0) (slice_index xs 1)) (a ∷ b ∷ [])

unfoldable pub ternary_kernel : ℕ → (ℕ → ℕ → ℕ → ℕ) → List Bool → List Bool → List Bool → List Bool
ternary_kernel w f a b c = kernel w (λ xs. f (slice_index xs 0) (slice_index xs 1) (slice_index xs 2)) (a ∷ b ∷ c ∷ [])

unfoldable pub quaternary_kernel : ℕ → (ℕ → ℕ → ℕ → ℕ → ℕ) → List Bool → List Bool → List Bool → List Bool → List Bool
quaternary_kernel w f a b c d = kernel w (λ xs. f (slice_index xs 0) (slice_index xs 1) (slice_index xs 2) (slice_index xs 3)) (a ∷ b ∷ c ∷ d ∷ [])

-- words of w bits each
abbrev pub AreWords : ℕ → List ℕ → Type 0
AreWords w xs = (k : ℕ) → slice_index xs k < 2 ^ w

-- each result that a closure may give for a word of w bits, or for two, three or four such words, is the result of the
-- word function f
abbrev pub ComputesUnary : {X : Type 0} → ℕ → (X → ℕ) → (X → X → Type 0) → (ℕ → ℕ) → Type 0
ComputesUnary {X} w number gives f = (x r : X) → number x < 2 ^ w → gives x r → number r ≡ f (number x)

abbrev pub ComputesBinary : {X : Type 0} → ℕ → (X → ℕ) → (X → X → X → Type 0) → (ℕ → ℕ → ℕ) → Type 0
ComputesBinary {X} w number gives f = (x y r : X) → number x < 2 ^ w → number y < 2 ^ w → gives x y r → number r ≡ f (number x) (number y)

abbrev pub ComputesTernary : {X : Type 0} → ℕ → (X → ℕ) → (X → X → X → X → Type 0) → (ℕ → ℕ → ℕ → ℕ) → Type 0
ComputesTernary {X} w number gives f = (x y z r : X) → number x < 2 ^ w → number y < 2 ^ w → number z < 2 ^ w → gives x y z r → number r ≡ f (number x) (number y) (number z)

abbrev pub ComputesQuaternary : {X : Type 0} → ℕ → (X → ℕ) → (X → X → X → X → X → Type 0) → (ℕ → ℕ → ℕ → ℕ → ℕ) → Type 0
ComputesQuaternary {X} w number gives f = (x y z v r : X) → number x < 2 ^ w → number y < 2 ^ w → number z < 2 ^ w → number v < 2 ^ w → gives x y z v r → number r ≡ f (number x) (number y) (number z) (number v)
