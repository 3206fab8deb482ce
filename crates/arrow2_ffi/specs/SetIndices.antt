-- The indices of set bits that a call has left.
use Rattle.std.specs.Prelude.{◌≡◌, ℕ, ◌+◌, ◌≤◌, List, Bool, length, map, drop, take}
use Rattle.arrow2_model.specs.Lists.{bits, part}
use Rattle.arrow2_chunk.specs.Ones.{ones}
use Rattle.arrow2_ffi.specs.declared.codes.TheConstants.{ARROW2_RANGE}
use Rattle.arrow2_ffi.specs.Ranges.{IsInside}
use Rattle.arrow2_ffi.specs.Writes.{Resumes, WritesIf}

-- the indices of the true items from index `at` on, rising, as indices into the whole list
abbrev pub ones_from : List Bool → ℕ → List ℕ
ones_from items at = map (λ k. at + k) (ones (drop at items))

-- a call wrote the first `count` of the indices of true items from index `at_old` on; there was capacity for `capacity`
-- indices, and `at_new` is the index to go on from
abbrev pub WritesSetIndices : (items : List Bool) (count capacity : ℕ) (indices : List ℕ) (at_old at_new end : ℕ) → Type 0
WritesSetIndices items count capacity indices at_old at_new end = Resumes (take count indices) (ones_from items at_old) (ones_from items at_new) count capacity at_old at_new end

-- what a call that finds set bits writes: their indices, the index to go on from, and their number
pub record IndexOutputs : Type 0 where
  pub indices : List ℕ
  pub at : ℕ
  pub count : ℕ

abbrev pub index_outputs : (indices : List ℕ) (at count : ℕ) → IndexOutputs
index_outputs indices at count = record { indices = indices; at = at; count = count }

-- the code of a call that finds the set bits among n bits of bytes from bit `offset` on, and its outputs before and
-- after it
abbrev pub FindsSetIndices : (code : ℕ) (bytes : List ℕ) (offset n : ℕ) (old new : IndexOutputs) → Type 0
FindsSetIndices code bytes offset n old new = WritesIf code (IsInside bytes offset n × (old.at ≤ n)) ARROW2_RANGE (WritesSetIndices (part (bits bytes) offset n) new.count (length old.indices) new.indices old.at new.at n) (new ≡ old)
