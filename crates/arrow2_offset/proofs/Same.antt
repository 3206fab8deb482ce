-- The result of `==` of offsets.
use Rattle.std.proofs.Common.{◌≡◌, ◌↔◌, ℕ, List, [], ◌∷◌, Bool, map, refl, ap, ◌∙◌, ℤ, pos, nat_eq, unsigned_abs, IsTrue, int_eq}
use Rattle.std.specs.Cmp.Lexicographic.{pointwise}
use Rattle.std.proofs.lemmas.Bool.Decides.{same_from_decides, Decides-eqb, Decides-int_eq}
use Rattle.std.proofs.lemmas.Slice.Eq.{slice_eq-Decides}

-- items that are equal where their numbers are
numbers_stated : {X : Type 0} (value : X → ℤ) (E : X → X → Bool) → ((a b : X) → IsTrue (E a b) ↔ (value a ≡ value b)) → (xs ys : List X) → pointwise E xs ys ≡ pointwise int_eq (map value xs) (map value ys)
numbers_stated value E law [] [] = refl
numbers_stated value E law [] (y ∷ ys) = refl
numbers_stated value E law (x ∷ xs) [] = refl
numbers_stated value E law (x ∷ xs) (y ∷ ys) =
    let here : E x y ≡ int_eq (value x) (value y) = same_from_decides (E x y) (int_eq (value x) (value y)) (law x y) (Decides-int_eq (value x) (value y)) in
    let rest = numbers_stated value E law xs ys in
    rw (here, rest) refl

naturals_stated : (xs ys : List ℕ) → pointwise int_eq (map pos xs) (map pos ys) ≡ pointwise nat_eq xs ys
naturals_stated [] [] = refl
naturals_stated [] (y ∷ ys) = refl
naturals_stated (x ∷ xs) [] = refl
naturals_stated (x ∷ xs) (y ∷ ys) =
    let d = Decides-int_eq (pos x) (pos y) in
    let here : int_eq (pos x) (pos y) ≡ nat_eq x y = same_from_decides (int_eq (pos x) (pos y)) (nat_eq x y) ((λ h. ap unsigned_abs (d.0 h)), λ e. d.1 (ap pos e)) (Decides-eqb x y) in
    let rest = naturals_stated xs ys in
    rw (here, rest) refl

-- `==` of items whose numbers are natural
pub naturals_same : {X : Type 0} (value : X → ℤ) (E : X → X → Bool) → ((a b : X) → IsTrue (E a b) ↔ (value a ≡ value b)) → (xs ys : List X) (ms ns : List ℕ) (r : Bool) → r ≡ pointwise E xs ys → map value xs ≡ map pos ms → map value ys ≡ map pos ns → (r ≡ pointwise nat_eq ms ns) × (IsTrue r ↔ (ms ≡ ns))
naturals_same value E law xs ys ms ns r is is-ms is-ns =
    let e : r ≡ pointwise nat_eq ms ns = is ∙ (numbers_stated value E law xs ys ∙ (ap (λ zs. pointwise int_eq zs (map value ys)) is-ms ∙ (ap (pointwise int_eq (map pos ms)) is-ns ∙ naturals_stated ms ns))) in
    (e, slice_eq-Decides Decides-eqb ms ns r e)

-- `==` of items by their numbers
pub numbers_same : {X : Type 0} (value : X → ℤ) (E : X → X → Bool) → ((a b : X) → IsTrue (E a b) ↔ (value a ≡ value b)) → (xs ys : List X) (ms ns : List ℤ) (r : Bool) → r ≡ pointwise E xs ys → map value xs ≡ ms → map value ys ≡ ns → (r ≡ pointwise int_eq ms ns) × (IsTrue r ↔ (ms ≡ ns))
numbers_same value E law xs ys ms ns r is is-ms is-ns =
    let e : r ≡ pointwise int_eq ms ns = is ∙ (numbers_stated value E law xs ys ∙ (ap (λ zs. pointwise int_eq zs (map value ys)) is-ms ∙ ap (pointwise int_eq ms) is-ns)) in
    (e, slice_eq-Decides Decides-int_eq ms ns r e)

-- `==` of items whose numbers are lists of naturals
pub spelled_same : {X : Type 0} (value : X → ℤ) (E : X → X → Bool) → ((a b : X) → IsTrue (E a b) ↔ (value a ≡ value b)) → (xs ys : List X) (vs ws : List ℤ) (ms ns : List ℕ) (r : Bool) → r ≡ pointwise E xs ys → map value xs ≡ vs → vs ≡ map pos ms → map value ys ≡ ws → ws ≡ map pos ns → r ≡ pointwise nat_eq ms ns
spelled_same value E law xs ys vs ws ms ns r is is-vs spell-vs is-ws spell-ws = (naturals_same value E law xs ys ms ns r is (is-vs ∙ spell-vs) (is-ws ∙ spell-ws)).0
