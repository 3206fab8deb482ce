-- Lists of one length that are read row by row: a row has the next word of each list.
use Rattle.std.specs.Prelude.{◌≡◌, ℕ, ◌+◌, ◌<◌, ◌^◌, List, ◌∷◌, Bool, Option, MatchOption}
use Rattle.arrow2_model.specs.Lists.{bit, unnum}
use Rattle.arrow2_model.specs.Kernels.{AreWords, common_length, words_at}
use Rattle.arrow2_model.specs.Tables.{answer, bits_at}

-- one step of reading rows, where `left` items of each list and the rows `nth` were still to come: the first row comes,
-- and the other rows are left. Where fewer items are left than a word has, no row comes, and nothing changes
abbrev pub GivesRow : {R : Type 0} → ℕ → (R → List ℕ) → ℕ → (ℕ → List ℕ) → Option R → ℕ → (ℕ → List ℕ) → Type 0
GivesRow w words left nth r left' nth' = MatchOption r
    ((left < w) × (left' ≡ left) × ((j : ℕ) → nth' j ≡ nth j))
    (λ x. (words x ≡ nth 0) × AreWords w (words x) × (left ≡ w + left') × ((j : ℕ) → nth' j ≡ nth (j + 1)))

-- row j has word j of each list
abbrev pub AreWordsOf : ℕ → List (List Bool) → (ℕ → List ℕ) → Type 0
AreWordsOf w lists row = (j : ℕ) → row j ≡ words_at w lists j

-- the first list has n items, and row j has word j of each list
abbrev pub AreRowsOf : ℕ → List (List Bool) → (ℕ → List ℕ) → ℕ → Type 0
AreRowsOf w lists row n = (common_length lists ≡ n) × AreWordsOf w lists row

-- the first w bits of each result that a closure may give for a row are the first w bits of f for the words of the row
abbrev pub ComputesRows : {R X : Type 0} → ℕ → (R → List ℕ) → (X → ℕ) → (R → X → Type 0) → (List ℕ → ℕ) → Type 0
ComputesRows {R} {X} w numbers number gives f = (row : R) (r : X) → AreWords w (numbers row) → gives row r → unnum w (number r) ≡ unnum w (f (numbers row))

-- the same of a closure that takes a word and a row
abbrev pub ComputesOwnRows : {X R : Type 0} → ℕ → (R → List ℕ) → (X → ℕ) → (X → R → X → Type 0) → (List ℕ → ℕ) → Type 0
ComputesOwnRows {X} {R} w numbers number gives f = (x : X) (row : R) (r : X) → number x < 2 ^ w → AreWords w (numbers row) → gives x row r → unnum w (number r) ≡ unnum w (f (number x ∷ numbers row))

-- each of the first w bits of each result that a closure may give for a row is the output of table t for the bits at
-- the same index of the words
abbrev pub IsBitwiseOnRows : {R X : Type 0} → ℕ → (R → List ℕ) → (X → ℕ) → (R → X → Type 0) → ℕ → Type 0
IsBitwiseOnRows {R} {X} w numbers number gives t = (row : R) (r : X) (i : ℕ) → AreWords w (numbers row) → i < w → gives row r → bit (number r) i ≡ answer t (bits_at (numbers row) i)

-- the same of a closure that takes a word and a row
abbrev pub IsBitwiseOnOwnRows : {X R : Type 0} → ℕ → (R → List ℕ) → (X → ℕ) → (X → R → X → Type 0) → ℕ → Type 0
IsBitwiseOnOwnRows {X} {R} w numbers number gives t = (x : X) (row : R) (r : X) (i : ℕ) → number x < 2 ^ w → AreWords w (numbers row) → i < w → gives x row r → bit (number r) i ≡ answer t (bits_at (number x ∷ numbers row) i)
