-- Items of one list or of another: of values with their validity, of bits by truth tables, and one item more.
use Rattle.std.proofs.Common.{◌≡◌, ℕ, zero, suc, ◌+◌, ◌<◌, List, [], ◌∷◌, ◌++◌, Bool, true, false, length, take, get_or, replicate, refl, ap, sym, ◌∙◌, arith, if◌then◌else◌}
use Rattle.std.proofs.lemmas.List.{get_or-replicate, length-replicate}
use Rattle.arrow2_model.specs.Lists.{bit}
use Rattle.arrow2_model.specs.Tables.{answer, each}
use Rattle.arrow2_model.proofs.Kernels.{each_from, get_or-each, length-each}
use Rattle.arrow2_walks.specs.Selections.{choice}
use Rattle.arrow2_walks.specs.Zipped.{slot, zipped}
use Rattle.arrow2_walks.proofs.Selections.{chosen-more_of}
use Rattle.arrow2_compute.proofs.ItemsAtIndices.{any-default}

module _ {X : Type 0} where
  pub length-all_chosen : (ms : List Bool) (xs ys : List X) → length ms ≡ length xs → length ms ≡ length ys → length (choice ms xs ys) ≡ length ms
  length-all_chosen [] xs ys e f = refl
  length-all_chosen (m ∷ ms) [] ys e f = absurd (omega (arith, e))
  length-all_chosen (m ∷ ms) (x ∷ xs) [] e f = absurd (omega (arith, f))
  length-all_chosen (m ∷ ms) (x ∷ xs) (y ∷ ys) e f = ap suc (length-all_chosen ms xs ys (omega (arith, e)) (omega (arith, f)))

  at-chosen : (ms : List Bool) (xs ys : List X) (k : ℕ) (d : X) → length ms ≡ length xs → length ms ≡ length ys → k < length ms → get_or (choice ms xs ys) k d ≡ (if get_or ms k false then get_or xs k d else get_or ys k d)
  at-chosen [] xs ys k d e f h = absurd (omega (arith, h))
  at-chosen (m ∷ ms) [] ys k d e f h = absurd (omega (arith, e))
  at-chosen (m ∷ ms) (x ∷ xs) [] k d e f h = absurd (omega (arith, f))
  at-chosen (m ∷ ms) (x ∷ xs) (y ∷ ys) zero d e f h = refl
  at-chosen (m ∷ ms) (x ∷ xs) (y ∷ ys) (suc k) d e f h = at-chosen ms xs ys k d (omega (arith, e)) (omega (arith, f)) (omega (arith, h))

  -- of values with their validity
  pub chosen-zipped : (ms : List Bool) (xs ys : List X) (vs ws : List Bool) → length vs ≡ length xs → length ws ≡ length ys → zipped (choice ms xs ys) (choice ms vs ws) ≡ choice ms (zipped xs vs) (zipped ys ws)
  chosen-zipped [] xs ys vs ws e f = refl
  chosen-zipped (m ∷ ms) [] ys vs ws e f = refl
  chosen-zipped (m ∷ ms) (x ∷ xs) ys [] ws e f = absurd (omega (arith, e))
  chosen-zipped (m ∷ ms) (x ∷ xs) [] (v ∷ vs) ws e f = refl
  chosen-zipped (m ∷ ms) (x ∷ xs) (y ∷ ys) (v ∷ vs) [] e f = absurd (omega (arith, f))
  chosen-zipped (true ∷ ms) (x ∷ xs) (y ∷ ys) (v ∷ vs) (w ∷ ws) e f = ap (λ l. slot x v ∷ l) (chosen-zipped ms xs ys vs ws (omega (arith, e)) (omega (arith, f)))
  chosen-zipped (false ∷ ms) (x ∷ xs) (y ∷ ys) (v ∷ vs) (w ∷ ws) e f = ap (λ l. slot y w ∷ l) (chosen-zipped ms xs ys vs ws (omega (arith, e)) (omega (arith, f)))

  -- one item more, by the items that were read
  pub chosen-read : (ms : List Bool) (xs ys : List X) (k : ℕ) (x y z : X) → k < length ms → k < length xs → k < length ys → x ≡ get_or xs k x → y ≡ get_or ys k y → z ≡ (if get_or ms k false then x else y)
      → choice (take (k + 1) ms) (take (k + 1) xs) (take (k + 1) ys) ≡ choice (take k ms) (take k xs) (take k ys) ++ z ∷ []
  chosen-read ms xs ys k x y z g h i is-x is-y is =
      let there : y ≡ get_or ys k x = is-y ∙ any-default ys k y x i in
      chosen-more_of x ms xs ys k g h i
      ∙ (ap (λ t. choice (take k ms) (take k xs) (take k ys) ++ (if get_or ms k false then t else get_or ys k x) ∷ []) (sym is-x)
      ∙ (ap (λ t. choice (take k ms) (take k xs) (take k ys) ++ (if get_or ms k false then x else t) ∷ []) (sym there)
      ∙ ap (λ t. choice (take k ms) (take k xs) (take k ys) ++ t ∷ []) (sym is)))

-- the tables of a bit that is one of two, and of one that is true elsewhere
of-two : (m x y : Bool) → (if m then x else y) ≡ answer 14 (answer 8 (m ∷ x ∷ []) ∷ answer 4 (m ∷ y ∷ []) ∷ [])
unfolding bit
of-two true true true = refl
of-two true true false = refl
of-two true false true = refl
of-two true false false = refl
of-two false true true = refl
of-two false true false = refl
of-two false false true = refl
of-two false false false = refl

of-left : (m x : Bool) → (if m then x else true) ≡ answer 13 (m ∷ x ∷ [])
unfolding bit
of-left true true = refl
of-left true false = refl
of-left false true = refl
of-left false false = refl

of-right : (m y : Bool) → (if m then true else y) ≡ answer 14 (m ∷ y ∷ [])
unfolding bit
of-right true true = refl
of-right true false = refl
of-right false true = refl
of-right false false = refl

pub chosen-bits : (ms xs ys : List Bool) → length ms ≡ length xs → length ms ≡ length ys → each 14 (each 8 (ms ∷ xs ∷ []) ∷ each 4 (ms ∷ ys ∷ []) ∷ []) ≡ choice ms xs ys
chosen-bits ms xs ys e f =
    let left = each 8 (ms ∷ xs ∷ []) in
    let right = each 4 (ms ∷ ys ∷ []) in
    let n : length left ≡ length ms = length-each 8 (ms ∷ xs ∷ []) in
    let size : length (choice ms xs ys) ≡ length left = length-all_chosen ms xs ys e f ∙ sym n in
    sym (each_from 14 (left ∷ right ∷ []) (choice ms xs ys) size
    (λ k less. let short : k < length left = less in
    let there : k < length ms = omega (arith, short, n) in
    at-chosen ms xs ys k false e f there ∙ (of-two (get_or ms k false) (get_or xs k false) (get_or ys k false)
    ∙ (ap (λ b. answer 14 (b ∷ answer 4 (get_or ms k false ∷ get_or ys k false ∷ []) ∷ [])) (sym (get_or-each 8 (ms ∷ xs ∷ []) k there))
    ∙ ap (λ b. answer 14 (get_or left k false ∷ b ∷ [])) (sym (get_or-each 4 (ms ∷ ys ∷ []) k there))))))

-- where the other one has no null
pub chosen-left : (ms xs : List Bool) (n : ℕ) → length ms ≡ length xs → length ms ≡ n → each 13 (ms ∷ xs ∷ []) ≡ choice ms xs (replicate n true)
chosen-left ms xs n e f =
    let size = length-replicate n true in
    sym (each_from 13 (ms ∷ xs ∷ []) (choice ms xs (replicate n true)) (length-all_chosen ms xs (replicate n true) e (omega (arith, size, f)))
    (λ k less. let short : k < length ms = less in
    at-chosen ms xs (replicate n true) k false e (omega (arith, size, f)) short
    ∙ (ap (λ b. if get_or ms k false then get_or xs k false else b) (get_or-replicate n k true false (omega (arith, short, f))) ∙ of-left (get_or ms k false) (get_or xs k false))))

pub chosen-right : (ms ys : List Bool) (n : ℕ) → length ms ≡ length ys → length ms ≡ n → each 14 (ms ∷ ys ∷ []) ≡ choice ms (replicate n true) ys
chosen-right ms ys n e f =
    let size = length-replicate n true in
    sym (each_from 14 (ms ∷ ys ∷ []) (choice ms (replicate n true) ys) (length-all_chosen ms (replicate n true) ys (omega (arith, size, f)) e)
    (λ k less. let short : k < length ms = less in
    at-chosen ms (replicate n true) ys k false (omega (arith, size, f)) e short
    ∙ (ap (λ b. if get_or ms k false then b else get_or ys k false) (get_or-replicate n k true false (omega (arith, short, f))) ∙ of-right (get_or ms k false) (get_or ys k false))))

-- where neither has one
pub chosen-none : (ms : List Bool) (n : ℕ) → length ms ≡ n → choice ms (replicate n true) (replicate n true) ≡ replicate n true
chosen-none [] zero e = refl
chosen-none [] (suc n) e = absurd (omega (arith, e))
chosen-none (m ∷ ms) zero e = absurd (omega (arith, e))
chosen-none (true ∷ ms) (suc n) e = ap (λ l. true ∷ l) (chosen-none ms n (omega (arith, e)))
chosen-none (false ∷ ms) (suc n) e = ap (λ l. true ∷ l) (chosen-none ms n (omega (arith, e)))
