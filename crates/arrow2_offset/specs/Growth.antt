-- How offsets grow.
use Rattle.std.specs.Prelude.{◌≡◌, ℕ, ◌+◌, ◌-◌, ◌<◌, ◌≤◌, ◌↔◌, ◌⊎◌, List, length, sum, Option, Result, OnOk, OnErr, IsOk, IfErr, IsErrOf}
use Rattle.std.specs.Iterator.Runs.{WholeRun}
use Rattle.arrow2_types.specs.declared.growth_error.GrowthError.{GrowthError}
use Rattle.arrow2_types.specs.declared.growth_error.GrowthError.TheVariants.{Overflow, OutOfMemory}
use Rattle.arrow2_offset.specs.Iterators.{MayYieldMoreThan, MayYieldPast}
use Rattle.arrow2_offset.specs.Offsets.{GrowingOffsets, slots, last_of_growing, SameOffsets, GrownBy}

-- growth by some lengths, all of them or none, where the number `reached` must not pass `greatest`. `as_error` turns a
-- `GrowthError` into the error of the call
pub record Grows {T E : Type 0} (as_error : GrowthError → E) (r : Result T E) (old new : GrowingOffsets) (more : List ℕ) (reached greatest : ℕ) : Type 0 where
  -- the lengths come after the others, from the same start
  pub ok : OnOk r (GrownBy more old new)
  -- an error leaves the start and the lengths as they were
  pub err : OnErr r (SameOffsets old new)
  -- the slots that were there are within the capacity
  pub within_capacity : slots old ≤ old.capacity
  -- it overflows exactly where `reached` passes `greatest`
  pub overflow : IsErrOf r (as_error Overflow) ↔ (greatest < reached)
  -- there is no other error but out of memory
  pub only : IfErr r (λ e. (e ≡ as_error Overflow) ⊎ (e ≡ as_error OutOfMemory))
  -- within the capacity, where `reached` does not pass `greatest`, it succeeds
  pub succeeds : slots old + length more ≤ old.capacity → reached ≤ greatest → IsOk r
  -- the capacity never falls
  pub capacity : old.capacity ≤ new.capacity

-- growth by some lengths, where the last offset must not pass `greatest`
abbrev pub GrowsUpTo : {T E : Type 0} → (GrowthError → E) → Result T E → GrowingOffsets → GrowingOffsets → List ℕ → ℕ → Type 0
GrowsUpTo as_error r old new more greatest = Grows as_error r old new more (last_of_growing old + sum more) greatest

-- growth by all lengths that an iterator yields, or by none, where the last offset must not pass `greatest`. `as_error`
-- turns a `GrowthError` into the error of the call
pub record GrowsByIterator {S T E : Type 0} (as_error : GrowthError → E) (r : Result T E) (old new : GrowingOffsets) (steps : S → Option ℕ → S → Type 0) (lengths : S) (greatest : ℕ) : Type 0 where
  -- its lengths come after the others, from the same start
  pub ok : OnOk r (WholeRun steps lengths (λ run. GrownBy run.items old new))
  -- the last offset does not pass `greatest`
  pub fits : OnOk r (last_of_growing new ≤ greatest)
  -- an error leaves the start and the lengths as they were
  pub err : OnErr r (SameOffsets old new)
  -- the slots that were there are within the capacity
  pub within_capacity : slots old ≤ old.capacity
  -- it overflows only where the iterator may yield lengths by which the last offset passes `greatest`
  pub overflow : IsErrOf r (as_error Overflow) → MayYieldPast greatest (last_of_growing old) steps lengths
  -- it is out of memory only where the iterator may yield more lengths than the spare capacity
  pub out_of_memory : IsErrOf r (as_error OutOfMemory) → MayYieldMoreThan (old.capacity - slots old) steps lengths
  -- there is no other error
  pub only : IfErr r (λ e. (e ≡ as_error Overflow) ⊎ (e ≡ as_error OutOfMemory))
  -- the capacity never falls
  pub capacity : old.capacity ≤ new.capacity
