-- Lists of words, one by one.
use Rattle.std.proofs.Common.{◌≡◌, ◌∙◌, ◌⊎◌, inl, inr, sym, ap, refl, ℕ, Bool, length, List, [], ◌∷◌, ◌++◌, map, append_assoc, append-nil, flat_map}
use Rattle.arrow2.specs.Zipped.{slot, zipped}
use Rattle.arrow2_machine.specs.Replies.{words_text}

-- words with a space before each
abbrev pub led : List (List ℕ) → List ℕ
led words = flat_map (λ word. 32 ∷ word) words

-- the text of words is the first one, and the others with a space before each
pub text-led : (word : List ℕ) (words : List (List ℕ)) → word ++ led words ≡ words_text (word ∷ words)
unfolding words_text
text-led word [] = append-nil word
text-led word (other ∷ words) = ap (λ t. word ++ (32 ∷ t)) (text-led other words)

module _ {X : Type 0} (f : X → List ℕ) where
  -- once the first word is written
  pub first_written : (out old : List ℕ) (x : X) (rest all : List X) → all ≡ x ∷ rest → out ≡ old ++ f x → out ++ led (map f rest) ≡ old ++ words_text (map f all)
  first_written out old x rest all e is = ap (λ t. t ++ led (map f rest)) is ∙ append_assoc old (f x) (led (map f rest)) ∙ ap (λ t. old ++ t) (text-led (f x) (map f rest)) ∙ ap (λ xs. old ++ words_text (map f xs)) (sym e)

  -- one word more
  pub next_written : (out spaced old : List ℕ) (x : X) (rest left : List X) → left ≡ x ∷ rest → spaced ≡ old ++ 32 ∷ [] → out ≡ spaced ++ f x → out ++ led (map f rest) ≡ old ++ led (map f left)
  next_written out spaced old x rest left e space is =
      ap (λ t. t ++ led (map f rest)) (is ∙ ap (λ t. t ++ f x) space) ∙ append_assoc (old ++ 32 ∷ []) (f x) (led (map f rest)) ∙ append_assoc old (32 ∷ []) (f x ++ led (map f rest)) ∙ ap (λ xs. old ++ led (map f xs)) (sym e)

-- values with their validity, one by one
pub zipped_next : {X : Type 0} (xs others : List X) (valid more : List Bool) (x : X) (v : Bool) → xs ≡ x ∷ others → valid ≡ v ∷ more → zipped xs valid ≡ slot x v ∷ zipped others more
zipped_next xs others valid more x v e f = rw (e, f) refl

-- lists of one length end together
pub ended_together : {X : Type 0} (xs : List X) (ys : List Bool) → length xs ≡ length ys → ((u : List X) × ((xs ≡ []) × (u ≡ []))) ⊎ ((u : List Bool) × ((ys ≡ []) × (u ≡ []))) → zipped xs ys ≡ []
ended_together [] ys same end = refl
ended_together (x ∷ xs) [] same end = refl
ended_together (x ∷ xs) (y ∷ ys) same (inl e) = let never = e.1.0 in cc
ended_together (x ∷ xs) (y ∷ ys) same (inr e) = let never = e.1.0 in cc
