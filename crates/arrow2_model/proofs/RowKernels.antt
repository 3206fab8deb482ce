-- Kernels of lists that are read row by row.
use Rattle.std.proofs.Common.{◌≡◌, ℕ, ◌<◌, List, [], ◌∷◌, Bool, slice_index, ap, sym, ◌∙◌, refl}
use Rattle.arrow2_model.specs.Lists.{unnum}
use Rattle.arrow2_model.specs.Kernels.{bits_of_words, kernel, words_at, common_length, unary_kernel, binary_kernel, ternary_kernel, quaternary_kernel}
use Rattle.arrow2_model.specs.Tables.{each}
use Rattle.arrow2_model.proofs.BitsOfWords.{same_joined}
use Rattle.arrow2_model.proofs.Kernels.{table_word, table_outputs, kernel_of_table}
use Rattle.arrow2_model.specs.Rows.{AreRowsOf, IsBitwiseOnRows, IsBitwiseOnOwnRows, ComputesRows, ComputesOwnRows}

-- the rows joined are the kernel of the lists
pub rows_kernel : (w n : ℕ) (f : List ℕ → ℕ) (lists : List (List Bool)) (row : ℕ → List ℕ) → 0 < w → AreRowsOf w lists row n → bits_of_words w (λ j. f (row j)) n ≡ kernel w f lists
unfolding kernel
rows_kernel w n f lists row p are =
    ap (bits_of_words w (λ j. f (row j))) (sym are.0)
    ∙ same_joined w (λ j. f (row j)) (λ j. f (words_at w lists j)) (common_length lists) p (λ j. ap (λ (r : List ℕ). unnum w (f r)) (are.1 j))

pub rows_table : (w n t : ℕ) (lists : List (List Bool)) (row : ℕ → List ℕ) → 0 < w → AreRowsOf w lists row n → bits_of_words w (λ j. table_word w t (row j)) n ≡ each t lists
rows_table w n t lists row p are = rows_kernel w n (table_word w t) lists row p are ∙ kernel_of_table w t lists p

-- a function that acts by a table is the table's word function
pub acts_rows : {R X : Type 0} (w t : ℕ) (numbers : R → List ℕ) (number : X → ℕ) (gives : R → X → Type 0) → IsBitwiseOnRows w numbers number gives t → ComputesRows w numbers number gives (table_word w t)
acts_rows w t numbers number gives acts row r fits post = table_outputs w t (numbers row) (number r) (λ i h. acts row r i fits h post)

pub acts_paired : {X R : Type 0} (w t : ℕ) (numbers : R → List ℕ) (number : X → ℕ) (gives : X → R → X → Type 0) → IsBitwiseOnOwnRows w numbers number gives t → ComputesOwnRows w numbers number gives (table_word w t)
acts_paired w t numbers number gives acts x row r small fits post = table_outputs w t (number x ∷ numbers row) (number r) (λ i h. acts x row r i small fits h post)

-- kernels of n lists
pub unary_is : (w : ℕ) (f : ℕ → ℕ) (a : List Bool) → kernel w (λ xs. f (slice_index xs 0)) (a ∷ []) ≡ unary_kernel w f a
unfolding unary_kernel
unary_is w f a = refl

pub binary_is : (w : ℕ) (f : ℕ → ℕ → ℕ) (a b : List Bool) → kernel w (λ xs. f (slice_index xs 0) (slice_index xs 1)) (a ∷ b ∷ []) ≡ binary_kernel w f a b
unfolding binary_kernel
binary_is w f a b = refl

pub ternary_is : (w : ℕ) (f : ℕ → ℕ → ℕ → ℕ) (a b c : List Bool) → kernel w (λ xs. f (slice_index xs 0) (slice_index xs 1) (slice_index xs 2)) (a ∷ b ∷ c ∷ []) ≡ ternary_kernel w f a b c
unfolding ternary_kernel
ternary_is w f a b c = refl

pub quaternary_is : (w : ℕ) (f : ℕ → ℕ → ℕ → ℕ → ℕ) (a b c d : List Bool) → kernel w (λ xs. f (slice_index xs 0) (slice_index xs 1) (slice_index xs 2) (slice_index xs 3)) (a ∷ b ∷ c ∷ d ∷ []) ≡ quaternary_kernel w f a b c d
unfolding quaternary_kernel
quaternary_is w f a b c d = refl
