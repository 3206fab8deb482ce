-- Kleene's logic: a null is a boolean that is not known, so a result is null where it depends on that boolean.
use Rattle.std.specs.Prelude.{◌≡◌, ℕ, List, [], ◌∷◌, Bool, true, false, ◌&&◌, ◌||◌, Option, Some, None}
use Rattle.arrow2_model.specs.Tables.{answer}
use Rattle.arrow2_walks.specs.Zipped.{slot}

-- an operator on booleans and nulls
abbrev pub NullableOperator : Type 0
NullableOperator = Option Bool → Option Bool → Option Bool

-- whether both are true
abbrev pub kleene_and : NullableOperator
kleene_and (Some a) (Some b) = Some (a && b)
kleene_and (Some false) None = Some false
kleene_and (Some true) None = None
kleene_and None (Some false) = Some false
kleene_and None (Some true) = None
kleene_and None None = None

-- whether one is true, or both
abbrev pub kleene_or : NullableOperator
kleene_or (Some a) (Some b) = Some (a || b)
kleene_or (Some true) None = Some true
kleene_or (Some false) None = None
kleene_or None (Some true) = Some true
kleene_or None (Some false) = None
kleene_or None None = None

-- the results of f for the items at each index of two lists
abbrev pub by_items : NullableOperator → List (Option Bool) → List (Option Bool) → List (Option Bool)
by_items f [] ys = []
by_items f (x ∷ xs) [] = []
by_items f (x ∷ xs) (y ∷ ys) = f x y ∷ by_items f xs ys

-- for two items, of values a and b with validities n and m: table t gives the value of f's result, and table `known`
-- gives whether this result is not null
abbrev pub TablesCompute : ℕ → ℕ → NullableOperator → Type 0
TablesCompute t known f = (a n b m : Bool) → slot (answer t (a ∷ b ∷ [])) (answer known (a ∷ n ∷ b ∷ m ∷ [])) ≡ f (slot a n) (slot b m)

-- table `paired` of three inputs has the outputs of table `known` of four where one of the two items is not null. The
-- inputs of `paired` are value and validity of the item that may be null, then the value of the other item
pub record AgreesWhereOneIsValid (paired known : ℕ) : Type 0 where
  -- where the second item is not null
  pub second : (a n b : Bool) → answer paired (a ∷ n ∷ b ∷ []) ≡ answer known (a ∷ n ∷ b ∷ true ∷ [])
  -- where the first item is not null
  pub first : (a b m : Bool) → answer paired (b ∷ m ∷ a ∷ []) ≡ answer known (a ∷ true ∷ b ∷ m ∷ [])
  -- where neither item is null the output of `known` is true
  pub both : (a b : Bool) → answer known (a ∷ true ∷ b ∷ true ∷ []) ≡ true
