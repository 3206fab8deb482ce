-- Validity bitmaps as booleans, and masks whose items may be null.
use Rattle.std.proofs.Common.{◌≡◌, ℕ, zero, suc, ◌<◌, List, [], ◌∷◌, Bool, true, false, not, length, get_or, replicate, map, refl, ap, sym, ◌∙◌, ◌&&◌}
use Rattle.std.specs.Simd.Lanes.{zip2}
use Rattle.std.proofs.lemmas.List.{get_or-map, length-map}
use Rattle.arrow2_model.specs.Lists.{bit}
use Rattle.arrow2_model.specs.Tables.{answer, each}
use Rattle.arrow2_model.proofs.Kernels.{each_from}
use Rattle.arrow2_walks.specs.Zipped.{zipped}
use Rattle.arrow2_compute.specs.Masks.{is_true}
use Rattle.arrow2_numeric.proofs.Pairs.{each-and}

not-answer : (a : Bool) → not a ≡ answer 1 (a ∷ [])
unfolding bit
not-answer true = refl
not-answer false = refl

-- the table of `not` item by item
pub each-not : (vs : List Bool) → each 1 (vs ∷ []) ≡ map not vs
each-not vs =
    sym (each_from 1 (vs ∷ []) (map not vs) (length-map vs not)
    (λ k less. let short : k < length vs = less in
    get_or-map not vs k false false short ∙ not-answer (get_or vs k false)))

-- of items that are all true
pub not-true : (n : ℕ) → replicate n false ≡ map not (replicate n true)
not-true zero = refl
not-true (suc n) = ap (λ l. false ∷ l) (not-true n)

-- of values that are all there
pub all-there : (xs : List Bool) → map is_true (zipped xs (replicate (length xs) true)) ≡ xs
all-there [] = refl
all-there (x ∷ xs) = ap (λ l. x ∷ l) (all-there xs)

both-there : (xs vs : List Bool) → zip2 ◌&&◌ xs vs ≡ map is_true (zipped xs vs)
both-there [] vs = refl
both-there (x ∷ xs) [] = refl
both-there (true ∷ xs) (true ∷ vs) = ap (λ l. true ∷ l) (both-there xs vs)
both-there (true ∷ xs) (false ∷ vs) = ap (λ l. false ∷ l) (both-there xs vs)
both-there (false ∷ xs) (true ∷ vs) = ap (λ l. false ∷ l) (both-there xs vs)
both-there (false ∷ xs) (false ∷ vs) = ap (λ l. false ∷ l) (both-there xs vs)

-- of values with a bitmap
pub masked : (xs vs : List Bool) → length xs ≡ length vs → each 8 (xs ∷ vs ∷ []) ≡ map is_true (zipped xs vs)
masked xs vs e = each-and xs vs e ∙ both-there xs vs
