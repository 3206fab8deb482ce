-- Truth tables of up to four inputs.
use Rattle.std.specs.Prelude.{◌≡◌, ℕ, ◌<◌, ◌^◌, List, [], ◌∷◌, Bool, false, map, slice_index_or}
use Rattle.std.specs.List.{range_with_len}
use Rattle.arrow2_model.specs.Lists.{bit, num}
use Rattle.arrow2_model.specs.Kernels.{common_length, AreWords}

-- the output of table t for inputs a1 to a4: bit number a1 + 2 * a2 + 4 * a3 + 8 * a4 of t
abbrev pub answer : ℕ → List Bool → Bool
answer t inputs = bit t (num inputs)

-- item i of each list
abbrev pub items_at : List (List Bool) → ℕ → List Bool
items_at lists i = map (λ items. slice_index_or items i false) lists

-- the outputs of a table item by item, on lists of equal length
unfoldable pub each : ℕ → List (List Bool) → List Bool
each t lists = map (λ i. answer t (items_at lists i)) (range_with_len 0 (common_length lists))

-- bit i of each word
abbrev pub bits_at : List ℕ → ℕ → List Bool
bits_at xs i = map (λ x. bit x i) xs

-- a word function that acts on each of the first w bits by table t
abbrev pub IsBitwise : ℕ → ℕ → (List ℕ → ℕ) → Type 0
IsBitwise t w f = (xs : List ℕ) (i : ℕ) → AreWords w xs → i < w → bit (f xs) i ≡ answer t (bits_at xs i)

-- each of the first w bits of each result that a closure may give for words of w bits is the output of table t for the
-- bits at the same index of the words
abbrev pub IsBitwiseUnary : {X : Type 0} → ℕ → (X → ℕ) → (X → X → Type 0) → ℕ → Type 0
IsBitwiseUnary {X} w number gives t = (x r : X) (i : ℕ) → number x < 2 ^ w → i < w → gives x r → bit (number r) i ≡ answer t (bit (number x) i ∷ [])

abbrev pub IsBitwiseBinary : {X : Type 0} → ℕ → (X → ℕ) → (X → X → X → Type 0) → ℕ → Type 0
IsBitwiseBinary {X} w number gives t = (x y r : X) (i : ℕ) → number x < 2 ^ w → number y < 2 ^ w → i < w → gives x y r → bit (number r) i ≡ answer t (bit (number x) i ∷ bit (number y) i ∷ [])

abbrev pub IsBitwiseTernary : {X : Type 0} → ℕ → (X → ℕ) → (X → X → X → X → Type 0) → ℕ → Type 0
IsBitwiseTernary {X} w number gives t = (x y z r : X) (i : ℕ) → number x < 2 ^ w → number y < 2 ^ w → number z < 2 ^ w → i < w → gives x y z r → bit (number r) i ≡ answer t (bit (number x) i ∷ bit (number y) i ∷ bit (number z) i ∷ [])

abbrev pub IsBitwiseQuaternary : {X : Type 0} → ℕ → (X → ℕ) → (X → X → X → X → X → Type 0) → ℕ → Type 0
IsBitwiseQuaternary {X} w number gives t = (x y z v r : X) (i : ℕ) → number x < 2 ^ w → number y < 2 ^ w → number z < 2 ^ w → number v < 2 ^ w → i < w → gives x y z v r → bit (number r) i ≡ answer t (bit (number x) i ∷ bit (number y) i ∷ bit (number z) i ∷ bit (number v) i ∷ [])
