-- What a word function may return, where its contract allows several results for a word.
use Rattle.std.specs.Prelude.{◌≡◌, ℕ, ◌*◌, ◌<◌, List, Bool}
use Rattle.arrow2_model.specs.Kernels.{AreWords, bits_of_words}

-- the items are the first n of the bits of words, w bits a word: the word at each index is one that is allowed there
abbrev pub AreJoinedResults : ℕ → ℕ → (ℕ → ℕ → Type 0) → List Bool → Type 0
AreJoinedResults w n allowed items = (results : ℕ → ℕ) × ((j : ℕ) → w * j < n → allowed j (results j)) × (items ≡ bits_of_words w results n)

-- a closure of words may return the word y for the word a, or for the words a and b
abbrev pub MayReturnUnary : {X : Type 0} → (X → ℕ) → (X → X → Type 0) → ℕ → ℕ → Type 0
MayReturnUnary {X} number gives a y = (x : X) × (r : X) × (number x ≡ a) × (number r ≡ y) × gives x r

abbrev pub MayReturnBinary : {X : Type 0} → (X → ℕ) → (X → X → X → Type 0) → ℕ → ℕ → ℕ → Type 0
MayReturnBinary {X} number gives a b y = (x1 : X) × (x2 : X) × (r : X) × (number x1 ≡ a) × (number x2 ≡ b) × (number r ≡ y) × gives x1 x2 r

-- a closure of rows may return the word y for these words of a row
abbrev pub MayReturnRow : {R X : Type 0} → ℕ → (R → List ℕ) → (X → ℕ) → (R → X → Type 0) → List ℕ → ℕ → Type 0
MayReturnRow {R} {X} w numbers number gives words y = (row : R) × (r : X) × (numbers row ≡ words) × AreWords w (numbers row) × (number r ≡ y) × gives row r

-- the same of a closure of an own word and a row
abbrev pub MayReturnOwn : {X R : Type 0} → ℕ → (R → List ℕ) → (X → ℕ) → (X → R → X → Type 0) → ℕ → List ℕ → ℕ → Type 0
MayReturnOwn {X} {R} w numbers number gives own words y = (x : X) × (row : R) × (r : X) × (number x ≡ own) × (numbers row ≡ words) × AreWords w (numbers row) × (number r ≡ y) × gives x row r
