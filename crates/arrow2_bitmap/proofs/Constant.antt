-- Lists whose items are all alike, under the tables of the operators.
use Rattle.std.proofs.Common.{◌≡◌, inl, inr, ◌⊎◌, ℕ, ◌+◌, ◌<◌, ◌&&◌, ◌||◌, not, List, [], ◌∷◌, Bool, true, false, length, get_or, replicate, refl, ap, sym, ◌∙◌, arith}
use mathlib.Core.Bool.{xor, beq}
use Rattle.std.proofs.lemmas.List.{length-replicate, get_or-replicate}
use Rattle.arrow2_model.specs.Lists.{falses}
use Rattle.arrow2_model.specs.Tables.{each}
use Rattle.arrow2_model.proofs.Kernels.{each_from}
use Rattle.arrow2_model.proofs.Tables.{answer-and, answer-or, answer-xor}
use Rattle.arrow2_model.proofs.Counts.{falses-append, falses-le-length, falses-none}

pub all_false : (items : List Bool) (n : ℕ) → falses items ≡ n → n ≡ length items → items ≡ replicate (length items) false
all_false [] n e l = refl
all_false (false ∷ items) n e l = let c : falses (false ∷ items) ≡ 1 + falses items = falses-append (false ∷ []) items in ap (λ t. false ∷ t) (all_false items (falses items) refl (omega (arith, e, l, c)))
all_false (true ∷ items) n e l = let c : falses (true ∷ items) ≡ 0 + falses items = falses-append (true ∷ []) items in let h = falses-le-length items in absurd (omega (arith, e, l, h, c))

item_of : (items : List Bool) (v : Bool) (k : ℕ) → items ≡ replicate (length items) v → k < length items → get_or items k false ≡ v
item_of items v k e h = ap (λ (t : List Bool). get_or t k false) e ∙ get_or-replicate (length items) k v false h

pub and_false : (a b : List Bool) → length a ≡ length b → (a ≡ replicate (length a) false) ⊎ (b ≡ replicate (length b) false) → replicate (length a) false ≡ each 8 (a ∷ b ∷ [])
and_false a b l h =
    each_from 8 (a ∷ b ∷ []) (replicate (length a) false) (length-replicate (length a) false)
    (λ k k<. get_or-replicate (length a) k false false k< ∙ sym (answer-and (get_or a k false) (get_or b k false) ∙ elim h [
      | inl e ↦ ap (λ x. x && get_or b k false) (item_of a false k e k<)
      | inr e ↦ ap (λ x. get_or a k false && x) (item_of b false k e (omega (arith, l))) ∙ none (get_or a k false)
    ]))
  where
    none : (x : Bool) → (x && false) ≡ false
    none true = refl
    none false = refl

pub or_true : (a b : List Bool) → length a ≡ length b → (a ≡ replicate (length a) true) ⊎ (b ≡ replicate (length b) true) → replicate (length a) true ≡ each 14 (a ∷ b ∷ [])
or_true a b l h =
    each_from 14 (a ∷ b ∷ []) (replicate (length a) true) (length-replicate (length a) true)
    (λ k k<. get_or-replicate (length a) k true false k< ∙ sym (answer-or (get_or a k false) (get_or b k false) ∙ elim h [
      | inl e ↦ ap (λ x. x || get_or b k false) (item_of a true k e k<)
      | inr e ↦ ap (λ x. get_or a k false || x) (item_of b true k e (omega (arith, l))) ∙ some (get_or a k false)
    ]))
  where
    some : (x : Bool) → (x || true) ≡ true
    some true = refl
    some false = refl

xor_of_alike : (a b : List Bool) (v u : Bool) → length a ≡ length b → a ≡ replicate (length a) v → b ≡ replicate (length b) u → replicate (length a) (xor v u) ≡ each 6 (a ∷ b ∷ [])
xor_of_alike a b v u l e f =
    each_from 6 (a ∷ b ∷ []) (replicate (length a) (xor v u)) (length-replicate (length a) (xor v u))
    (λ k k<. get_or-replicate (length a) k (xor v u) false k< ∙ sym (answer-xor (get_or a k false) (get_or b k false) ∙ (ap (λ x. xor x (get_or b k false)) (item_of a v k e k<) ∙ ap (xor v) (item_of b u k f (omega (arith, l))))))

pub xor_alike : (a b : List Bool) (v u : Bool) → length a ≡ length b → a ≡ replicate (length a) v → b ≡ replicate (length b) u → replicate (length a) (not (beq v u)) ≡ each 6 (a ∷ b ∷ [])
unfolding xor
xor_alike a b v u l e f = ap (replicate (length a)) (differ v u) ∙ xor_of_alike a b v u l e f
  where
    differ : (v u : Bool) → not (beq v u) ≡ xor v u
    differ true true = refl
    differ true false = refl
    differ false true = refl
    differ false false = refl

-- a side that changes nothing
pub and_true : (a b : List Bool) → length a ≡ length b → b ≡ replicate (length b) true → a ≡ each 8 (a ∷ b ∷ [])
and_true a b l e =
    each_from 8 (a ∷ b ∷ []) a refl
    (λ k k<. sym (answer-and (get_or a k false) (get_or b k false) ∙ (ap (λ x. get_or a k false && x) (item_of b true k e (omega (arith, l))) ∙ same (get_or a k false))))
  where
    same : (x : Bool) → (x && true) ≡ x
    same true = refl
    same false = refl

pub or_false : (a b : List Bool) → length a ≡ length b → b ≡ replicate (length b) false → a ≡ each 14 (a ∷ b ∷ [])
or_false a b l e =
    each_from 14 (a ∷ b ∷ []) a refl
    (λ k k<. sym (answer-or (get_or a k false) (get_or b k false) ∙ (ap (λ x. get_or a k false || x) (item_of b false k e (omega (arith, l))) ∙ same (get_or a k false))))
  where
    same : (x : Bool) → (x || false) ≡ x
    same true = refl
    same false = refl

pub ruleset constant = (all_false, falses-none)
