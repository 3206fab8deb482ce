-- The runs that a call has left.
use Rattle.std.specs.Prelude.{◌≡◌, ℕ, ◌≤◌, List, Bool, length, take, zip}
use Rattle.arrow2_model.specs.Lists.{bits, part}
use Rattle.arrow2_walks.specs.Runs.{runs_from}
use Rattle.arrow2_ffi.specs.Ranges.{HaveEqualLengths, IsInside}
use Rattle.arrow2_ffi.specs.Writes.{Resumes, Writes}

-- a call wrote the first `count` of the runs from index `at_old` on, their first indices to one list and their lengths
-- to another; there was capacity for `capacity` runs, and `at_new` is the index to go on from
abbrev pub WritesRuns : (items : List Bool) (count capacity : ℕ) (starts lengths : List ℕ) (at_old at_new end : ℕ) → Type 0
WritesRuns items count capacity starts lengths at_old at_new end = Resumes (zip (take count starts) (take count lengths)) (runs_from items at_old) (runs_from items at_new) count capacity at_old at_new end

-- what a call that finds runs writes: their first indices, their lengths, the index to go on from, and their number
pub record RunOutputs : Type 0 where
  pub starts : List ℕ
  pub lengths : List ℕ
  pub at : ℕ
  pub count : ℕ

abbrev pub run_outputs : (starts lengths : List ℕ) (at count : ℕ) → RunOutputs
run_outputs starts lengths at count = record { starts = starts; lengths = lengths; at = at; count = count }

-- the code of a call that finds the runs of n bits of bytes from bit `offset` on, and its outputs before and after it
abbrev pub FindsRuns : (code : ℕ) (bytes : List ℕ) (offset n : ℕ) (old new : RunOutputs) → Type 0
FindsRuns code bytes offset n old new = Writes code (IsInside bytes offset n × (old.at ≤ n)) (HaveEqualLengths old.starts old.lengths) (WritesRuns (part (bits bytes) offset n) new.count (length old.starts) new.starts new.lengths old.at new.at n) (new ≡ old)
