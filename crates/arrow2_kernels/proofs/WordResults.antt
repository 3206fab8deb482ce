-- Results of word functions.
use Rattle.std.proofs.Common.{◌≡◌, ℕ, ◌*◌, ◌/◌, ◌%◌, ◌^◌, ◌<◌, List, [], ◌∷◌, Bool, false, get_or, ap, sym, subst, ◌∙◌, arith}
use Rattle.std.proofs.Math.Nat.{mul-div-le, mod-lt}
use Rattle.arrow2_model.specs.Lists.{unnum}
use Rattle.arrow2_model.specs.Kernels.{bits_of_words}
use Rattle.arrow2_model.specs.Rows.{ComputesOwnRows}
use Rattle.arrow2_model.proofs.Bits.{get_or-unnum}
use Rattle.arrow2_model.proofs.BitsOfWords.{joined_from, length-joined, get_or-joined}
use Rattle.arrow2_kernels.specs.WordResults.{AreJoinedResults, MayReturnOwn, MayReturnRow, MayReturnBinary}

-- words that agree at each index below the end
same_words : (w n : ℕ) (g h : ℕ → ℕ) → 0 < w → ((j : ℕ) → w * j < n → unnum w (g j) ≡ unnum w (h j)) → bits_of_words w g n ≡ bits_of_words w h n
same_words w n g h pos same =
    joined_from w h n (bits_of_words w g n) pos (length-joined w g n pos) (λ k less.
    let j : ℕ = k / w in
    let i : ℕ = k % w in
    let inside : i < w = mod-lt k pos in
    let at = same j (omega (arith, mul-div-le k w, less)) in
    get_or-joined w g n k pos less ∙ (sym (get_or-unnum w (g j) i false inside) ∙ (ap (λ (b : List Bool). get_or b i false) at ∙ get_or-unnum w (h j) i false inside)))

-- where the results of a closure are those of a function, the items are those of this function
pub computed_items : {X R : Type 0} (w n : ℕ) (numbers : R → List ℕ) (number : X → ℕ) (gives : X → R → X → Type 0) (own : ℕ → ℕ) (row : ℕ → List ℕ) (f : List ℕ → ℕ) (items : List Bool) → 0 < w → ((j : ℕ) → own j < 2 ^ w)
    → ComputesOwnRows w numbers number gives f → AreJoinedResults w n (λ j. MayReturnOwn w numbers number gives (own j) (row j)) items → items ≡ bits_of_words w (λ j. f (own j ∷ row j)) n
computed_items w n numbers number gives own row f items pos fits computes are =
    are.2 ∙ same_words w n are.0 (λ j. f (own j ∷ row j)) pos (λ j less.
    let may = are.1 j less in
    ap (unnum w) (sym may.6)
    ∙ (computes may.0 may.1 may.2 (subst (λ (x : ℕ). x < 2 ^ w) (sym may.3) (fits j)) may.5 may.7
    ∙ (ap (λ (x : ℕ). unnum w (f (x ∷ numbers may.1))) may.3 ∙ ap (λ (r : List ℕ). unnum w (f (own j ∷ r))) may.4)))

-- other lengths and conditions
pub results_as : (w n m : ℕ) (allowed other : ℕ → ℕ → Type 0) (items : List Bool) → n ≡ m → ((j y : ℕ) → allowed j y → other j y) → AreJoinedResults w n allowed items → AreJoinedResults w m other items
results_as w n m allowed other items same to are = (are.0, λ j less. to j (are.0 j) (are.1 j (omega (arith, same, less))), are.2 ∙ ap (bits_of_words w are.0) same)

-- what a closure of an own word and the word of another list may return
pub binary_result : {X : Type 0} (w : ℕ) (number : X → ℕ) (gives : X → X → X → Type 0) (a b y : ℕ) → MayReturnOwn w (λ x. number x ∷ []) number gives a (b ∷ []) y → MayReturnBinary number gives a b y
binary_result w number gives a b y may = (may.0, may.1, may.2, may.3, ap (λ l. get_or l 0 0) may.4, may.6, may.7)

-- a fact on what a closure of rows may return, for the words of the row
pub row_result : {R : Type 0} (w : ℕ) (words : R → List ℕ) (gives : R → ℕ → Type 0) (fact : List ℕ → ℕ → Type 0) (front back : List ℕ) (y : ℕ) → ((row : R) (r : ℕ) → gives row r → fact (words row) r) → front ≡ back → MayReturnRow w words (λ x. x) gives front y → fact back y
row_result w words gives fact front back y to same may = subst (λ l. fact l y) (may.2 ∙ same) (subst (fact (words may.0)) may.4 (to may.0 may.1 may.5))
