-- Items that may be null, compared: one by one, and lists of them.
use Rattle.std.proofs.Common.{◌≡◌, List, [], ◌∷◌, map, Bool, true, false, Option, Some, None, refl, sym, ap, ◌∙◌, true≢false, rules, IfSome, MatchOption, Decides}
use Rattle.std.specs.Cmp.{IsPartialEquivalence}
use Rattle.std.specs.Cmp.Lexicographic.{pointwise}
use Rattle.std.specs.Iterator.{Yields, YieldsFirst, YieldsThen}
use Rattle.std.specs.List.{AllZip}
use Rattle.std.specs.Option.{option_eq}
use Rattle.std.proofs.lemmas.Slice.Eq.{slice_eq-Decides}

module _ {K : Type 0} {E : K → K → Bool} (e : IsPartialEquivalence E) where
  symmetric : (p q : Option K) → option_eq E p q ≡ option_eq E q p
  symmetric None None = refl
  symmetric None (Some y) = refl
  symmetric (Some x) None = refl
  symmetric (Some x) (Some y) = e.symm x y

  transitive : (p q s : Option K) → option_eq E p q ≡ true → option_eq E q s ≡ true → option_eq E p s ≡ true
  transitive None None s h k = k
  transitive None (Some y) s h k = absurd (true≢false (sym h))
  transitive (Some x) None s h k = absurd (true≢false (sym h))
  transitive (Some x) (Some y) None h k = absurd (true≢false (sym k))
  transitive (Some x) (Some y) (Some z) h k = e.trans x y z h k

  -- equality of items that may be null, by that of their values
  pub options_per : IsPartialEquivalence (option_eq E)
  options_per = record { symm = symmetric; trans = transitive }

module _ {X : Type 0} (E : X → X → Bool) where
  -- values that are all there are compared by themselves
  pub compared-some : (xs ys : List X) → pointwise E xs ys ≡ pointwise (option_eq E) (map (λ x. Some x) xs) (map (λ x. Some x) ys)
  compared-some [] [] = refl
  compared-some [] (y ∷ ys) = refl
  compared-some (x ∷ xs) [] = refl
  compared-some (x ∷ xs) (y ∷ ys) = rw (compared-some xs ys) refl

  module _ (same : (x y : X) → Decides (E x y) (x ≡ y)) where
    -- two items compare as equal exactly if they are, where their values do
    pub options_Decides : (a b : Option X) → Decides (option_eq E a b) (a ≡ b)
    options_Decides (Some a) (Some b) = let h = same a b in search rules
    options_Decides (Some a) None = search rules
    options_Decides None (Some b) = search rules
    options_Decides None None = search rules

    -- two lists do
    pub lists_Decides : (xs ys : List (Option X)) (r : Bool) → r ≡ pointwise (option_eq E) xs ys → Decides r (xs ≡ ys)
    lists_Decides xs ys r e = slice_eq-Decides options_Decides xs ys r e

-- std's `eq` of two iterators: their first items xs and ys are equal, and their next results end the comparison
module _ {S T X : Type 0} (ours : S → List X) (theirs : T → List X) (E : X → X → Bool) where
  pub eq-compares : (xs ys : List X) (s u : S) (t v : T) (o p : Option X) (r : Bool) → YieldsThen (YieldsFirst ours) s xs o u → YieldsThen (YieldsFirst theirs) t ys p v → AllZip (λ x y. E x y ≡ true) xs ys
      → MatchOption o (MatchOption p (r ≡ true) (λ _. r ≡ false)) (λ x. (r ≡ false) × IfSome p (λ y. E x y ≡ false)) → r ≡ pointwise E (ours s) (theirs t)
  eq-compares [] [] s u t v None None r a b same is = rw (ap ours a.1 ∙ a.2.0, ap theirs b.1 ∙ b.2.0) is
  eq-compares [] [] s u t v None (Some y) r a b same is = rw (ap ours a.1 ∙ a.2.0, ap theirs b.1 ∙ b.2) is
  eq-compares [] [] s u t v (Some x) None r a b same is = rw (ap ours a.1 ∙ a.2, ap theirs b.1 ∙ b.2.0) is.0
  eq-compares [] [] s u t v (Some x) (Some y) r a b same is = rw (ap ours a.1 ∙ a.2, ap theirs b.1 ∙ b.2, is.1) is.0
  eq-compares [] (y ∷ ys) s u t v o p r a b same is = absurd same
  eq-compares (x ∷ xs) [] s u t v o p r a b same is = absurd same
  eq-compares (x ∷ xs) (y ∷ ys) s u t v o p r a b same is =
      let m : (j : S) × (ours s ≡ x ∷ ours j) × Yields (YieldsFirst ours) j xs a.0 = a.1 in
      let n : (j : T) × (theirs t ≡ y ∷ theirs j) × Yields (YieldsFirst theirs) j ys b.0 = b.1 in
      let rest = eq-compares xs ys m.0 u n.0 v o p r (a.0, m.2, a.2) (b.0, n.2, b.2) same.1 is in
      rw (m.1, n.1, same.0) rest
