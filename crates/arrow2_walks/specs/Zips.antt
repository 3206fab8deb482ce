-- The steps of the validity zips.
use Rattle.std.specs.Prelude.{◌≡◌, ◌⊎◌, ℕ, List, Bool, true, Option, Some, None, MatchOption, option_map, length}
use Rattle.std.specs.Iterator.Runs.{EachRunFrom}
use Rattle.arrow2_walks.specs.Zipped.{slot}
use Rattle.arrow2_walks.specs.declared.zip_validity.ZipValidityIter.{ZipValidityIter}
use Rattle.arrow2_walks.specs.declared.zip_validity.ZipValidity.{ZipValidity}
use Rattle.arrow2_walks.specs.declared.zip_validity.ZipValidity.TheVariants.{Required, Optional}

-- the iterator over the values, and the one over their validity
abbrev pub values_of : {S T : Type 0} → ZipValidityIter S T → S
values_of s = s.values

abbrev pub validity_of : {S T : Type 0} → ZipValidityIter S T → T
validity_of s = s.validity

-- P holds for the values where the zip is `Required`, and Q for the two iterators where it is `Optional`
abbrev pub MatchZip : {S T : Type 0} → ZipValidity S T → (S → Type 0) → (ZipValidityIter S T → Type 0) → Type 0
MatchZip (Required values) P Q = P values
MatchZip (Optional both) P Q = Q both

-- it is `Required`, and P holds of the values
abbrev pub IsRequiredAnd : {S T : Type 0} → ZipValidity S T → (S → Type 0) → Type 0
IsRequiredAnd s P = MatchZip s P (λ _. ⊥)

-- it is `Optional`, and Q holds of the two iterators
abbrev pub IsOptionalAnd : {S T : Type 0} → ZipValidity S T → (ZipValidityIter S T → Type 0) → Type 0
IsOptionalAnd s Q = MatchZip s (λ _. ⊥) Q

-- the two iterators have the same number of items left
abbrev pub HasEqualLengths : {S T A : Type 0} → (S → List A) → (T → List Bool) → ZipValidityIter S T → Type 0
HasEqualLengths rest valid s = length (rest (values_of s)) ≡ length (valid (validity_of s))

-- the same where there is validity; without it nothing is required
abbrev pub MayHaveEqualLengths : {S T A : Type 0} → (S → List A) → (T → List Bool) → ZipValidity S T → Type 0
MayHaveEqualLengths rest valid s = MatchZip s (λ _. Unit {0}) (HasEqualLengths rest valid)

-- where P holds for a state, each step of `steps` from this state is also one of `like`, and P holds for the state
-- after it
abbrev pub StepsAlike : {S R : Type 0} → (S → Type 0) → (S → R → S → Type 0) → (S → R → S → Type 0) → Type 0
StepsAlike {S} {R} P steps like = (s t : S) (r : R) → P s → steps s r t → like s r t × P t

-- the iterator over the values, in either variant
abbrev pub either_values : {S T : Type 0} → ZipValidity S T → S
either_values (Required values) = values
either_values (Optional both) = values_of both

-- an iterator s that is called until it returns `None` yields n items
abbrev pub GivesAsMany : {S A : Type 0} → (S → Option A → S → Type 0) → S → ℕ → Type 0
GivesAsMany steps s n = EachRunFrom steps s (λ p. p.whole ≡ true → p.len ≡ n)

module _ {S T A : Type 0} (steps : S → Option A → S → Type 0) (others : T → Option Bool → T → Type 0) where
  -- equally many items come from both, where both come to their ends
  abbrev pub GiveEquallyMany : S → T → Type 0
  GiveEquallyMany s t = EachRunFrom steps s (λ p. EachRunFrom others t (λ q. p.whole ≡ true → q.whole ≡ true → p.len ≡ q.len))

  -- both iterators take the step. Their items make a slot; where one of them gives no item, there is no slot.
  abbrev pub zip_validity_steps : ZipValidityIter S T → Option (Option A) → ZipValidityIter S T → Type 0
  zip_validity_steps s r t = MatchOption r
      ((o : Option A) × (p : Option Bool) × steps (values_of s) o (values_of t) × others (validity_of s) p (validity_of t) × ((o ≡ None) ⊎ (p ≡ None)))
      (λ item. (x : A) × (valid : Bool) × steps (values_of s) (Some x) (values_of t) × others (validity_of s) (Some valid) (validity_of t) × (item ≡ slot x valid))

  -- the same with validity; without it the values take the step, and each item is `Some`
  abbrev pub either_steps : ZipValidity S T → Option (Option A) → ZipValidity S T → Type 0
  either_steps s r t = MatchZip s
      (λ values. IsRequiredAnd t (λ left. (o : Option A) × steps values o left × (r ≡ option_map (λ x. Some x) o)))
      (λ both. IsOptionalAnd t (λ left. zip_validity_steps both r left))
