-- A validity zip iterates over its slots where its parts iterate over lists of equal length.
use Rattle.std.proofs.Common.{◌≡◌, ◌⊎◌, inl, inr, suc, List, [], ◌∷◌, ◌++◌, Bool, true, false, map, length, refl, sym, ap, ◌∙◌, subst, arith, add-one, Option, Some, None, MatchOption, option_map, length-append}
use Rattle.std.proofs.iter.runs.Made.{took}
use Rattle.std.specs.Iterator.Runs.{Run}
use Rattle.std.specs.Iterator.{Yields, YieldsFirst, YieldsLast, YieldsFirstBy, YieldsLastBy}
use Rattle.arrow2_walks.specs.Zipped.{slot, zipped}
use Rattle.arrow2_walks.specs.declared.zip_validity.ZipValidityIter.{ZipValidityIter}
use Rattle.arrow2_walks.specs.declared.zip_validity.ZipValidity.{ZipValidity}
use Rattle.arrow2_walks.specs.declared.zip_validity.ZipValidity.TheVariants.{Required, Optional}
use Rattle.arrow2_walks.specs.Zips.{HasEqualLengths, MayHaveEqualLengths, StepsAlike, either_steps, validity_of, values_of, zip_validity_steps}
use Rattle.arrow2_walks.specs.Slots.{slots_of_both, slots_of}
use Rattle.arrow2_walks.proofs.Zipped.{push-zipped}

-- a step, as a fact on the lengths
first_length : {A B : Type 0} (view : A → B) (xs ys : List B) (o : Option A) → MatchOption o ((xs ≡ []) × (ys ≡ [])) (λ x. xs ≡ view x ∷ ys) → MatchOption o ((xs ≡ []) × (ys ≡ [])) (λ _. length xs ≡ suc (length ys))
first_length view xs ys None h = h
first_length view xs ys (Some x) h = ap length h

length-last : {B : Type 0} (ys : List B) (y : B) → length (ys ++ y ∷ []) ≡ suc (length ys)
length-last ys y = length-append ys (y ∷ []) ∙ add-one (length ys)

last_length : {A B : Type 0} (view : A → B) (xs ys : List B) (o : Option A) → MatchOption o ((xs ≡ []) × (ys ≡ [])) (λ x. xs ≡ ys ++ view x ∷ []) → MatchOption o ((xs ≡ []) × (ys ≡ [])) (λ _. length xs ≡ suc (length ys))
last_length view xs ys None h = h
last_length view xs ys (Some x) h = ap length h ∙ length-last ys (view x)

no_item : {X : Type 0} (x : X) → Some x ≡ None → ⊥
no_item x e = subst (λ o. MatchOption o ⊥ (λ _. Unit {0})) e tt

-- where one of two lists of one length has no item, neither has
ended : {A B : Type 0} (xs ys : List B) (vs ws : List Bool) (o : Option A) (p : Option Bool) → length xs ≡ length vs
    → MatchOption o ((xs ≡ []) × (ys ≡ [])) (λ _. length xs ≡ suc (length ys)) → MatchOption p ((vs ≡ []) × (ws ≡ [])) (λ _. length vs ≡ suc (length ws))
    → (o ≡ None) ⊎ (p ≡ None) → (xs ≡ []) × (ys ≡ []) × (length ys ≡ length ws)
ended xs ys vs ws None None e a b h = (a.0, a.1, ap length a.1 ∙ sym (ap length b.1))
ended xs ys vs ws None (Some v) e a b h = let l = ap length a.0 in absurd (omega (arith, l, b, e))
ended xs ys vs ws (Some x) None e a b h = let l = ap length b.0 in absurd (omega (arith, l, a, e))
ended xs ys vs ws (Some x) (Some v) e a b (inl i) = absurd (no_item x i)
ended xs ys vs ws (Some x) (Some v) e a b (inr i) = absurd (no_item v i)

map-last : {A B : Type 0} (f : A → B) (xs : List A) (x : A) → map f (xs ++ x ∷ []) ≡ map f xs ++ f x ∷ []
map-last f [] x = refl
map-last f (y ∷ xs) x = ap (λ l. f y ∷ l) (map-last f xs x)

module _ {S T A B : Type 0} (view : A → B) (rest : S → List B) (valid : T → List Bool) where
  slot-view : (x : A) (v : Bool) → slot (view x) v ≡ option_map view (slot x v)
  slot-view x true = refl
  slot-view x false = refl

  pub first_slot_by : StepsAlike (HasEqualLengths rest valid) (zip_validity_steps (YieldsFirstBy view rest) (YieldsFirst valid)) (YieldsFirstBy (option_map view) (slots_of_both rest valid))
  first_slot_by s t None e h =
      let xs = rest (values_of s) in let ys = rest (values_of t) in let vs = valid (validity_of s) in let ws = valid (validity_of t) in
      let no = ended xs ys vs ws h.0 h.1 e (first_length view xs ys h.0 h.2) (first_length (λ v. v) vs ws h.1 h.3) h.4 in
      ((ap (λ l. zipped l vs) no.0, ap (λ l. zipped l ws) no.1), no.2)
  first_slot_by s t (Some item) e h =
      let ys = rest (values_of t) in let vs = valid (validity_of s) in let ws = valid (validity_of t) in
      let a = ap length h.2 in let b = ap length h.3 in
      (ap (λ l. zipped l vs) h.2 ∙ (ap (λ l. zipped (view h.0 ∷ ys) l) h.3 ∙ ap (λ z. z ∷ zipped ys ws) (slot-view h.0 h.1 ∙ ap (option_map view) (sym h.4))), omega (arith, a, b, e))

  pub last_slot_by : StepsAlike (HasEqualLengths rest valid) (zip_validity_steps (YieldsLastBy view rest) (YieldsLast valid)) (YieldsLastBy (option_map view) (slots_of_both rest valid))
  last_slot_by s t None e h =
      let xs = rest (values_of s) in let ys = rest (values_of t) in let vs = valid (validity_of s) in let ws = valid (validity_of t) in
      let no = ended xs ys vs ws h.0 h.1 e (last_length view xs ys h.0 h.2) (last_length (λ v. v) vs ws h.1 h.3) h.4 in
      ((ap (λ l. zipped l vs) no.0, ap (λ l. zipped l ws) no.1), no.2)
  last_slot_by s t (Some item) e h =
      let ys = rest (values_of t) in let vs = valid (validity_of s) in let ws = valid (validity_of t) in
      let a = ap length h.2 ∙ length-last ys (view h.0) in let b = ap length h.3 ∙ length-last ws h.1 in
      let same : length ys ≡ length ws = omega (arith, a, b, e) in
      (ap (λ l. zipped l vs) h.2 ∙ (ap (λ l. zipped (ys ++ view h.0 ∷ []) l) h.3 ∙ (push-zipped ys ws (view h.0) h.1 (sym same) ∙ ap (λ z. zipped ys ws ++ z ∷ []) (slot-view h.0 h.1 ∙ ap (option_map view) (sym h.4)))), same)

  -- values that come without validity
  first_value : (xs ys : List B) (o : Option A) (r : Option (Option A)) → MatchOption o ((xs ≡ []) × (ys ≡ [])) (λ x. xs ≡ view x ∷ ys) → r ≡ option_map (λ x. Some x) o
      → MatchOption r ((map (λ x. Some x) xs ≡ []) × (map (λ x. Some x) ys ≡ [])) (λ item. map (λ x. Some x) xs ≡ option_map view item ∷ map (λ x. Some x) ys)
  first_value xs ys None r h i = subst (λ q. MatchOption q ((map (λ x. Some x) xs ≡ []) × (map (λ x. Some x) ys ≡ [])) (λ item. map (λ x. Some x) xs ≡ option_map view item ∷ map (λ x. Some x) ys)) (sym i) (ap (map (λ x. Some x)) h.0, ap (map (λ x. Some x)) h.1)
  first_value xs ys (Some x) r h i = subst (λ q. MatchOption q ((map (λ x. Some x) xs ≡ []) × (map (λ x. Some x) ys ≡ [])) (λ item. map (λ x. Some x) xs ≡ option_map view item ∷ map (λ x. Some x) ys)) (sym i) (ap (map (λ x. Some x)) h)

  last_value : (xs ys : List B) (o : Option A) (r : Option (Option A)) → MatchOption o ((xs ≡ []) × (ys ≡ [])) (λ x. xs ≡ ys ++ view x ∷ []) → r ≡ option_map (λ x. Some x) o
      → MatchOption r ((map (λ x. Some x) xs ≡ []) × (map (λ x. Some x) ys ≡ [])) (λ item. map (λ x. Some x) xs ≡ map (λ x. Some x) ys ++ option_map view item ∷ [])
  last_value xs ys None r h i = subst (λ q. MatchOption q ((map (λ x. Some x) xs ≡ []) × (map (λ x. Some x) ys ≡ [])) (λ item. map (λ x. Some x) xs ≡ map (λ x. Some x) ys ++ option_map view item ∷ [])) (sym i) (ap (map (λ x. Some x)) h.0, ap (map (λ x. Some x)) h.1)
  last_value xs ys (Some x) r h i = subst (λ q. MatchOption q ((map (λ x. Some x) xs ≡ []) × (map (λ x. Some x) ys ≡ [])) (λ item. map (λ x. Some x) xs ≡ map (λ x. Some x) ys ++ option_map view item ∷ [])) (sym i) (ap (map (λ x. Some x)) h ∙ map-last (λ x. Some x) ys (view x))

  pub first_of_either_by : StepsAlike (MayHaveEqualLengths rest valid) (either_steps (YieldsFirstBy view rest) (YieldsFirst valid)) (YieldsFirstBy (option_map view) (slots_of rest valid))
  first_of_either_by (Required a) (Required b) r e h = (first_value (rest a) (rest b) h.0 r h.1 h.2, tt)
  first_of_either_by (Required a) (Optional b) r e h = absurd h
  first_of_either_by (Optional a) (Required b) r e h = absurd h
  first_of_either_by (Optional a) (Optional b) r e h = first_slot_by a b r e h

  pub last_of_either_by : StepsAlike (MayHaveEqualLengths rest valid) (either_steps (YieldsLastBy view rest) (YieldsLast valid)) (YieldsLastBy (option_map view) (slots_of rest valid))
  last_of_either_by (Required a) (Required b) r e h = (last_value (rest a) (rest b) h.0 r h.1 h.2, tt)
  last_of_either_by (Required a) (Optional b) r e h = absurd h
  last_of_either_by (Optional a) (Required b) r e h = absurd h
  last_of_either_by (Optional a) (Optional b) r e h = last_slot_by a b r e h

  -- the items that the steps of a zip gave in all are its slots
  pub drained_slots : (s t u : ZipValidityIter S T) (xs : List (Option A)) → HasEqualLengths rest valid s → Yields (zip_validity_steps (YieldsFirstBy view rest) (YieldsFirst valid)) s xs t
      → zip_validity_steps (YieldsFirstBy view rest) (YieldsFirst valid) t None u → map (option_map view) xs ≡ slots_of_both rest valid s
  drained_slots s t u [] e y n = sym (ap (slots_of_both rest valid) y ∙ (first_slot_by t u None (subst (HasEqualLengths rest valid) y e) n).0.0)
  drained_slots s t u (x ∷ xs) e y n =
      let f = first_slot_by s y.0 (Some x) e y.1 in
      ap (λ l. option_map view x ∷ l) (drained_slots y.0 t u xs f.1 y.2 n) ∙ sym f.0

module _ {S T A : Type 0} (rest : S → List A) (valid : T → List Bool) where
  plain : (xs : List (Option A)) → map (option_map (λ x. x)) xs ≡ xs
  plain [] = refl
  plain (None ∷ xs) = ap (λ l. None ∷ l) (plain xs)
  plain (Some x ∷ xs) = ap (λ l. Some x ∷ l) (plain xs)

  -- the same of a run, as `collect` specifies it
  pub collected_slots : (p : Run (zip_validity_steps (YieldsFirst rest) (YieldsFirst valid))) (s : ZipValidityIter S T) → p.from ≡ s → p.whole ≡ true → HasEqualLengths rest valid s → p.items ≡ slots_of_both rest valid s
  collected_slots p s is whole e =
      let t = took p in
      let end = t.2 whole in
      sym (plain p.items) ∙ (drained_slots (λ x. x) rest valid p.from t.0 end.0 p.items (subst (HasEqualLengths rest valid) (sym is) e) t.1 end.1 ∙ ap (slots_of_both rest valid) is)

pub ruleset slots = (first_slot_by, last_slot_by, first_of_either_by, last_of_either_by)
