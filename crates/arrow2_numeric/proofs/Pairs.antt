-- Results of two arrays, index by index, with the validity of both.
use Rattle.std.proofs.Common.{◌≡◌, ℕ, ◌<◌, List, [], ◌∷◌, Bool, true, false, length, get_or, refl, ap, sym, ◌∙◌, arith, ◌&&◌, Some, None, ext_get_or}
use Rattle.std.specs.Simd.Lanes.{zip2}
use Rattle.std.proofs.lemmas.Simd.{length-zip2, get_or-zip2}
use Rattle.arrow2_model.specs.Lists.{bit}
use Rattle.arrow2_model.specs.Tables.{answer, each}
use Rattle.arrow2_model.proofs.Kernels.{each_from}
use Rattle.arrow2_walks.specs.Zipped.{zipped}
use Rattle.arrow2_numeric.specs.Pairs.{of_both, IsTestedAt}

-- of values that are both valid
pub both-zipped : {X Y Z : Type 0} (f : X → Y → Z) (xs : List X) (ys : List Y) (vs ws : List Bool)
    → zip2 (of_both f) (zipped xs vs) (zipped ys ws) ≡ zipped (zip2 f xs ys) (zip2 ◌&&◌ vs ws)
both-zipped f [] ys vs ws = refl
both-zipped f (x ∷ xs) [] [] ws = refl
both-zipped f (x ∷ xs) [] (v ∷ vs) ws = refl
both-zipped f (x ∷ xs) (y ∷ ys) [] ws = refl
both-zipped f (x ∷ xs) (y ∷ ys) (v ∷ vs) [] = refl
both-zipped f (x ∷ xs) (y ∷ ys) (true ∷ vs) (true ∷ ws) = ap (λ l. Some (f x y) ∷ l) (both-zipped f xs ys vs ws)
both-zipped f (x ∷ xs) (y ∷ ys) (true ∷ vs) (false ∷ ws) = ap (λ l. None ∷ l) (both-zipped f xs ys vs ws)
both-zipped f (x ∷ xs) (y ∷ ys) (false ∷ vs) (true ∷ ws) = ap (λ l. None ∷ l) (both-zipped f xs ys vs ws)
both-zipped f (x ∷ xs) (y ∷ ys) (false ∷ vs) (false ∷ ws) = ap (λ l. None ∷ l) (both-zipped f xs ys vs ws)

and-answer : (a b : Bool) → (a && b) ≡ answer 8 (a ∷ b ∷ [])
unfolding bit
and-answer true true = refl
and-answer true false = refl
and-answer false true = refl
and-answer false false = refl

-- the table of `and` item by item
pub each-and : (vs ws : List Bool) → length vs ≡ length ws → each 8 (vs ∷ ws ∷ []) ≡ zip2 ◌&&◌ vs ws
each-and vs ws e =
    let l : length (zip2 ◌&&◌ vs ws) ≡ length vs = length-zip2 ◌&&◌ vs ws e in
    sym (each_from 8 (vs ∷ ws ∷ []) (zip2 ◌&&◌ vs ws) l
    (λ k less. let short : k < length vs = less in
    let also : k < length ws = omega (arith, short, e) in
    get_or-zip2 ◌&&◌ vs ws k false false false short also ∙ and-answer (get_or vs k false) (get_or ws k false)))

-- the bits that a test of both items gave at each index
pub tested-pairs : {X Y : Type 0} (xs : List X) (ys : List Y) (items : List Bool) (states : X → Y → Bool → Type 0) (test : X → Y → Bool)
    → length xs ≡ length ys → length items ≡ length xs
    → ((k : ℕ) → k < length xs → IsTestedAt xs ys states k (get_or items k false))
    → ((x : X) (y : Y) (said : Bool) → states x y said → said ≡ test x y) → items ≡ zip2 test xs ys
tested-pairs xs ys items states test same_lengths size given stated =
    let l = length-zip2 test xs ys same_lengths in
    ext_get_or false items (zip2 test xs ys) (size ∙ sym l) (λ k h.
    let less : k < length xs = omega (arith, h, size) in
    let more : k < length ys = omega (arith, less, same_lengths) in
    let one = given k less in
    stated one.left one.right (get_or items k false) one.returned
    ∙ (ap (λ x. test x one.right) (sym one.is_left)
    ∙ (ap (test (get_or xs k one.left)) (sym one.is_right) ∙ sym (get_or-zip2 test xs ys k one.left one.right false less more))))
