-- The words after a command's name.
use Rattle.std.specs.Prelude.{ℕ, List, [], ◌∷◌, Option, Some, None}

infixl 10 ◌>>=◌
-- the value, where there is one
abbrev pub ◌>>=◌ : {A B : Type 0} → Option A → (A → Option B) → Option B
None >>= f = None
(Some x) >>= f = f x

-- the values of no words: nothing; more words have none
abbrev pub no_words : List (List ℕ) → Option (Unit {0})
no_words [] = Some tt
no_words (word ∷ words) = None

infixr 10 ◌>>◌
-- the value of the first word, and those of the words after it
abbrev pub ◌>>◌ : {A B : Type 0} → (List ℕ → Option A) → (List (List ℕ) → Option B) → List (List ℕ) → Option (A × B)
(f >> g) [] = None
(f >> g) (word ∷ words) = do
  first ← f word
  others ← g words
  Some (first, others)
