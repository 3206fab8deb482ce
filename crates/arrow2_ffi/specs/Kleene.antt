-- Kleene's logic on bits in memory: the code of a call, and the bits that it wrote.
use Rattle.std.specs.Prelude.{◌≡◌, ℕ, List, [], ◌∷◌, Bool, Option, take}
use Rattle.arrow2_model.specs.Lists.{bits, part}
use Rattle.arrow2_model.specs.Tables.{each}
use Rattle.arrow2_walks.specs.Zipped.{zipped}
use Rattle.arrow2_array.specs.Kleene.{NullableOperator, by_items, kleene_and, kleene_or}
use Rattle.arrow2_ffi.specs.Validities.{CoversItems, given_validity, items_not_null, validity_bits}
use Rattle.arrow2_ffi.specs.Ranges.{IsInside, HasBytesForBits}
use Rattle.arrow2_ffi.specs.Writes.{Stores, Writes}
use Rattle.arrow2_ffi.specs.declared.kleene.Side.{Side}

-- values, and their validity, which may be missing where no item is null: for each of the two, the bytes and the first
-- bit
pub record Input : Type 0 where
  pub values : List ℕ × ℕ
  pub validity : Option (List ℕ × ℕ)

-- the input of values and a validity, each with its first bit; if `all_valid` is true, the validity is missing
abbrev pub side : (values : List ℕ) (offset : ℕ) (validity : List ℕ) (validity_offset : ℕ) (all_valid : Bool) → Input
side values offset validity validity_offset all_valid = record { values = (values, offset); validity = given_validity all_valid validity validity_offset }

-- the input that a call was given as slices, with a validity or none
abbrev pub side_of : Side → Input
side_of x = record { values = (x.values.0.now, x.values.1); validity = validity_bits x.validity }

-- the first n values of an input
abbrev pub first_values : ℕ → Input → List Bool
first_values n x = part (bits x.values.0) x.values.1 n

-- which of the first n items of an input are not null
abbrev pub first_valid : ℕ → Input → List Bool
first_valid n x = items_not_null x.validity n

-- the first n items of an input: each a value, or none where it is null
abbrev pub first_items : ℕ → Input → List (Option Bool)
first_items n x = zipped (first_values n x) (first_valid n x)

-- the first n values and their validity of the left input, then those of the right one
abbrev pub first_parts : ℕ → Input → Input → List (List Bool)
first_parts n left right = first_values n left ∷ first_valid n left ∷ first_values n right ∷ first_valid n right ∷ []

-- n values of an input are inside their bytes, and its validity, if there is one, has a bit for each
abbrev pub IsWholeInside : ℕ → Input → Type 0
IsWholeInside n x = IsInside x.values.0 x.values.1 n × CoversItems x.validity n

-- the results of f for n items of both inputs are stored: their values by table `t` of two inputs, their validity by
-- table `known` of four
pub record StoresKleene (f : NullableOperator) (t known n : ℕ) (left right : Input) (new_values new_validity : List ℕ) : Type 0 where
  -- item by item
  pub items : zipped (take n (bits new_values)) (take n (bits new_validity)) ≡ by_items f (first_items n left) (first_items n right)
  -- the values, also those of nulls
  pub values : Stores new_values n (each t (first_values n left ∷ first_values n right ∷ []))
  -- the validity
  pub validity : Stores new_validity n (each known (first_parts n left right))

-- the code of a call that stores the results of f for n items of both inputs in `values` and `validity`. What both hold
-- with another code than ARROW2_OK is not stated here
abbrev pub WritesKleene : (code : ℕ) → NullableOperator → (t known n : ℕ) → (left right : Input) → (values validity : List ℕ) → Type 0
WritesKleene code f t known n left right values validity = Writes code (IsWholeInside n left × IsWholeInside n right) (HasBytesForBits values n × HasBytesForBits validity n) (StoresKleene f t known n left right values validity) (Unit {0})

-- the code of a call that stores `and` by Kleene's logic of n items of both inputs: its values are those of table 8,
-- its validity is that of table 53060
abbrev pub GivesAnd : (code n : ℕ) → (left right : Input) → (values validity : List ℕ) → Type 0
GivesAnd code n left right values validity = WritesKleene code kleene_and 8 53060 n left right values validity

-- the same of `or`, by tables 14 and 64648
abbrev pub GivesOr : (code n : ℕ) → (left right : Input) → (values validity : List ℕ) → Type 0
GivesOr code n left right values validity = WritesKleene code kleene_or 14 64648 n left right values validity
