-- Steps over rows of words.
use Rattle.std.proofs.Common.{◌≡◌, ℕ, zero, suc, ◌+◌, ◌-◌, ◌*◌, ◌/◌, ◌^◌, ◌<◌, List, [], ◌∷◌, ◌++◌, Bool, true, false, Option, None, Some, take, drop, replicate, length, get_or, refl, ap, sym, ◌∙◌, subst, arith, pow_pos, length-append, drop_at, drop-drop, take_all, mul-suc}
use Rattle.arrow2_model.specs.Lists.{num, unnum, full_words, rest, WordCursor, GivesWord, word}
use Rattle.arrow2_model.specs.Kernels.{words_at, own_kernel, AreWords}
use Rattle.arrow2_model.specs.Tables.{each}
use Rattle.arrow2_model.proofs.Bits.{length-unnum}
use Rattle.arrow2_model.proofs.Numbers.{num-unnum, num-part-lt}
use Rattle.arrow2_model.proofs.Words.{length-rest, rest-none, rest-whole, length-full_words, get_or-full_words}
use Rattle.arrow2_model.proofs.Kernels.{table_word}
use Rattle.arrow2_model.proofs.RowKernels.{rows_table, acts_paired}
use Rattle.arrow2_model.specs.Rows.{AreRowsOf, AreWordsOf, ComputesOwnRows, GivesRow, IsBitwiseOnOwnRows}

-- false after the items changes no number
pub num-filled : (items : List Bool) (m : ℕ) → num (items ++ replicate m false) ≡ num items
num-filled [] zero = refl
num-filled [] (suc m) = rw (num-filled [] m) refl
num-filled (true ∷ items) m = rw (num-filled items m) refl
num-filled (false ∷ items) m = rw (num-filled items m) refl

-- one word
pub one_word : (w x : ℕ) → x < 2 ^ w → AreWords w (x ∷ [])
one_word w x h zero = h
one_word w x h (suc k) = pow_pos w

-- the rows of a list itself and of those paired with it
pub paired_own : (w n : ℕ) (own : List Bool) (lists : List (List Bool)) (row : ℕ → List ℕ) → length own ≡ n → ((j : ℕ) → row j ≡ words_at w lists j) → AreRowsOf w (own ∷ lists) (λ j. word w own j ∷ row j) n
paired_own w n own lists row l are = (l, λ j. ap (λ r. word w own j ∷ r) (are j))

-- the outputs of a table, where the results of each function of the words are known
pub own_outputs : {X R : Type 0} (w n t : ℕ) (numbers : R → List ℕ) (number : X → ℕ) (gives : X → R → X → Type 0) (own new : List Bool) (lists : List (List Bool)) (row : ℕ → List ℕ) → 0 < w → length own ≡ n
    → ((f : List ℕ → ℕ) → ComputesOwnRows w numbers number gives f → new ≡ own_kernel w f own row n) → IsBitwiseOnOwnRows w numbers number gives t → AreWordsOf w lists row → new ≡ each t (own ∷ lists)
own_outputs w n t numbers number gives own new lists row p l results acts are =
    results (table_word w t) (acts_paired w t numbers number gives acts) ∙ rows_table w n t (own ∷ lists) (λ j. word w own j ∷ row j) p (paired_own w n own lists row l are)

-- word j of a list after its first word
word_following : (w x : ℕ) (items left : List Bool) (j : ℕ) → items ≡ unnum w x ++ left → word w left j ≡ word w items (j + 1)
word_following w x items left j e =
    let m = mul-suc w j in
    let n : j + 1 ≡ suc j = omega arith in
    let at : w * (j + 1) ≡ w * j + w = ap (λ q. w * q) n ∙ omega (arith, m) in
    let front : drop w items ≡ left = ap (drop w) e ∙ drop_at (unnum w x) left w (length-unnum w x) in
    rw at (ap (λ (t : List Bool). num (take w t)) (ap (drop (w * j)) (sym front) ∙ (drop-drop (w * j) w items ∙ ap (λ q. drop q items) (omega arith))))

-- the first word
first_word : (w x : ℕ) (items : List Bool) (left : List ℕ) → 0 < w → full_words w items ≡ x ∷ left → x ≡ word w items 0
first_word w x items left p e =
    let l = length-full_words w items in
    let some : 0 < length items / w = omega (arith, l, ap length e) in
    sym (ap (λ (t : List ℕ). get_or t 0 0) e) ∙ get_or-full_words w items 0 some

-- a step of one list
pub one_step : {S A : Type 0} (w : ℕ) (number : A → ℕ) (cursor : S → WordCursor) (s : S) (r : Option A) (t : S) → 0 < w → GivesWord w number cursor s r t
    → GivesRow w (λ x. number x ∷ []) (length (cursor s).items) (λ j. word w (cursor s).items j ∷ []) r (length (cursor t).items) (λ j. word w (cursor t).items j ∷ [])
one_step w number cursor s None t p gives =
    let short = length-rest w (cursor s).items p in
    let whole : rest w (cursor s).items ≡ (cursor s).items = gives.items in
    let also : rest w (cursor t).items ≡ (cursor t).items = rest-whole w (cursor t).items p gives.word.1 in
    let same : (cursor t).items ≡ (cursor s).items = sym also ∙ (gives.rest ∙ whole) in
    (omega (arith, short, ap length whole), ap length same, λ j. ap (λ (i : List Bool). word w i j ∷ []) same)
one_step w number cursor s (Some x) t p gives =
    let first : number x ≡ word w (cursor s).items 0 = first_word w (number x) (cursor s).items (full_words w (cursor t).items) p gives.word in
    let e : (cursor s).items ≡ unnum w (number x) ++ (cursor t).items = gives.items in
    let n = length-append (unnum w (number x)) (cursor t).items in
    let m = length-unnum w (number x) in (
      ap (λ n. n ∷ []) first,
      one_word w (number x) (subst (λ (y : ℕ). y < 2 ^ w) (sym first) (num-part-lt w (cursor s).items (w * 0))),
      omega (arith, ap length e, n, m),
      λ j. ap (λ n. n ∷ []) (word_following w (number x) (cursor s).items (cursor t).items j e),
    )

-- the masked word of a rest
pub one_rest : (w x m len : ℕ) (items : List Bool) → 0 < w → length items < w → take (length (rest w items)) (unnum w x) ≡ rest w items → len ≡ length (rest w items)
    → unnum w m ≡ take len (unnum w x) ++ replicate (w - len) false → m < 2 ^ w → m ≡ word w items 0
one_rest w x m len items p short spilled size masked fits =
    let whole : rest w items ≡ items = rest-none w items short in
    let l : len ≡ length items = size ∙ ap length whole in
    let cut : take len (unnum w x) ≡ items = ap (λ n. take n (unnum w x)) size ∙ (spilled ∙ whole) in
    let z : w * 0 ≡ 0 = omega arith in
    let all : take w items ≡ items = take_all w items (omega arith) in
    sym (num-unnum w m fits) ∙ (ap num (masked ∙ ap (λ (t : List Bool). t ++ replicate (w - len) false) cut) ∙ (num-filled items (w - len) ∙ rw (z, all) refl))
