-- The code of an export, and the items that it wrote.
use Rattle.std.specs.Prelude.{◌≡◌, ◌≢◌, ℕ, ◌<◌, ◌≤◌, ◌↔◌, ◌⊎◌, List, [], ◌∷◌, ◌++◌, Bool, take, IsTrue}
use Rattle.arrow2_model.specs.Lists.{bits, IsCanonical, part}
use Rattle.arrow2_model.specs.Tables.{each}
use Rattle.arrow2_ffi.specs.Ranges.{IsInside, HasBytesForBits, AreInside, inputs_of}
use Rattle.arrow2_ffi.specs.declared.codes.TheConstants.{ARROW2_OK, ARROW2_RANGE, ARROW2_LENGTH}

-- the code of a call that writes where its ranges are inside (`inside`) and its slices have the lengths that it needs
-- (`sized`)
pub record Writes (code : ℕ) (inside sized written unchanged : Type 0) : Type 0 where
  -- `code` is ARROW2_RANGE exactly where `inside` is not true
  pub range : (code ≡ ARROW2_RANGE) ↔ ¬ inside
  -- `code` is ARROW2_LENGTH exactly where `inside` is true and `sized` is not
  pub length : (code ≡ ARROW2_LENGTH) ↔ ((code ≢ ARROW2_RANGE) × ¬ sized)
  -- `code` is ARROW2_OK, ARROW2_RANGE or ARROW2_LENGTH
  pub only : (code ≡ ARROW2_OK) ⊎ (code ≡ ARROW2_RANGE) ⊎ (code ≡ ARROW2_LENGTH)
  -- with ARROW2_OK the call wrote what `written` states
  pub ok : code ≡ ARROW2_OK → written
  -- with any other code nothing was written
  pub rejected : code ≢ ARROW2_OK → unchanged

-- the code of a call that writes if `fits` is true, and returns the code `other` if it is not
pub record WritesIf (code : ℕ) (fits : Type 0) (other : ℕ) (written unchanged : Type 0) : Type 0 where
  -- `code` is `other` exactly where `fits` is not true
  pub rejection : (code ≡ other) ↔ ¬ fits
  -- `code` is ARROW2_OK or `other`
  pub only : (code ≡ ARROW2_OK) ⊎ (code ≡ other)
  -- with ARROW2_OK the call wrote what `written` states
  pub ok : code ≡ ARROW2_OK → written
  -- with any other code nothing was written
  pub rejected : code ≢ ARROW2_OK → unchanged

-- the first n bits of bytes are those of a list, there is no spare byte, and no padding bit is set
pub record Stores (bytes : List ℕ) (n : ℕ) (list : List Bool) : Type 0 where
  -- the bits
  pub items : take n (bits bytes) ≡ list
  -- the spare bytes and the padding bits
  pub canonical : IsCanonical bytes n

-- the code of a call that writes over `old` the outputs of table t for n bits of each input: with ARROW2_RANGE t is not
-- below the bound or an input is not inside its bytes, with ARROW2_LENGTH `old` is not the bytes that n bits need
abbrev pub WritesTable : (code bound t n : ℕ) → List (List ℕ × ℕ) → (old new : List ℕ) → Type 0
WritesTable code bound t n inputs old new = Writes code ((t < bound) × AreInside n inputs) (HasBytesForBits old n) (Stores new n (each t (inputs_of n inputs))) (new ≡ old)

-- the code of such a call in place: its first input is the first n bits of `old`, and `inputs` are the others
abbrev pub WritesTableInPlace : (code bound t n : ℕ) → List (List ℕ × ℕ) → (old new : List ℕ) → Type 0
WritesTableInPlace code bound t n inputs old new = Writes code ((t < bound) × AreInside n inputs) (HasBytesForBits old n) (Stores new n (each t (take n (bits old) ∷ inputs_of n inputs))) (new ≡ old)

-- the code of a call that compares n bits of two inputs, each given by its bytes and its first bit, and writes whether
-- they are equal
abbrev pub ComparesBits : (code n : ℕ) → (left right : List ℕ × ℕ) → (old new : Bool) → Type 0
ComparesBits code n left right old new = WritesIf code (IsInside left.0 left.1 n × IsInside right.0 right.1 n) ARROW2_RANGE (IsTrue new ↔ (part (bits left.0) left.1 n ≡ part (bits right.0) right.1 n)) (new ≡ old)

-- of the items that were left before, the call wrote the first `count`, at most `capacity`; the others are left now. It
-- went on from index `at_old`, and the next call goes on from index `at_new`
pub record Resumes {X : Type 0} (written left_before left_now : List X) (count capacity at_old at_new end : ℕ) : Type 0 where
  -- the written items, and then the items left now, are the items left before
  pub items : written ++ left_now ≡ left_before
  -- no more items were written than there was capacity for
  pub within_capacity : count ≤ capacity
  -- where fewer were written, no item is left, and `at_new` is `end`
  pub ends : count < capacity → (left_now ≡ []) × (at_new ≡ end)
  -- `at_new` is not before `at_old`
  pub not_back : at_old ≤ at_new
  -- `at_new` is at most `end`
  pub within : at_new ≤ end
