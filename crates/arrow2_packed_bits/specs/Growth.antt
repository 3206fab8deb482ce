-- The records of growth by bits.
use Rattle.std.specs.Prelude.{◌≡◌, ℕ, ◌+◌, ◌<◌, ◌≤◌, ◌^◌, ◌↔◌, ◌⊎◌, List, ◌++◌, Bool, length, Result, OnOk, OnErr, IsOk, IfErr, IsErrOf}
use Rattle.arrow2_model.specs.Lists.{GrowingBitmap}
use Rattle.arrow2_types.specs.declared.growth_error.GrowthError.{GrowthError}
use Rattle.arrow2_types.specs.declared.growth_error.GrowthError.TheVariants.{Overflow, OutOfMemory}

-- growth by the items `more`, all of them or none, where `as_error` turns a `GrowthError` into the error of the
-- call
pub record Appends {T E : Type 0} (as_error : GrowthError → E) (r : Result T E) (old new : GrowingBitmap) (more : List Bool) : Type 0 where
  -- they come after the others
  pub ok : OnOk r (new.items ≡ old.items ++ more)
  -- an error leaves the items
  pub err : OnErr r (new.items ≡ old.items)
  -- a usize counts the items that were there
  pub fits : length old.items < 2 ^ 64
  -- and they are within the capacity
  pub within_capacity : length old.items ≤ old.capacity
  -- it overflows exactly where a usize cannot count all items
  pub overflow : IsErrOf r (as_error Overflow) ↔ (2 ^ 64 ≤ length old.items + length more)
  -- there is no other error but out of memory
  pub only : IfErr r (λ e. (e ≡ as_error Overflow) ⊎ (e ≡ as_error OutOfMemory))
  -- within the capacity it succeeds
  pub succeeds : length old.items + length more ≤ old.capacity → IsOk r
  -- the capacity never falls
  pub capacity : old.capacity ≤ new.capacity

-- a part of `Appends`, for calls that require that the length fits
pub record Pushes {T E : Type 0} (r : Result T E) (old new : GrowingBitmap) (more : List Bool) : Type 0 where
  -- they come after the others
  pub ok : OnOk r (new.items ≡ old.items ++ more)
  -- within the capacity it succeeds
  pub succeeds : length old.items + length more ≤ old.capacity → IsOk r
  -- the capacity never falls
  pub capacity : old.capacity ≤ new.capacity

-- capacity for `additional` more items is reserved, where `as_error` turns a `GrowthError` into the error of the call
pub record Reserves {X T E : Type 0} (as_error : GrowthError → E) (r : Result T E) (old new : List X) (additional old_capacity new_capacity : ℕ) : Type 0 where
  -- the items stay
  pub items : new ≡ old
  -- after `Ok` that many more are within the new capacity
  pub ok : OnOk r (length old + additional ≤ new_capacity)
  -- a usize counts the items
  pub fits : length old < 2 ^ 64
  -- and they are within the old capacity
  pub within_capacity : length old ≤ old_capacity
  -- it overflows exactly where a usize cannot count the items and `additional` more together
  pub overflow : IsErrOf r (as_error Overflow) ↔ (2 ^ 64 ≤ length old + additional)
  -- there is no other error but out of memory
  pub only : IfErr r (λ e. (e ≡ as_error Overflow) ⊎ (e ≡ as_error OutOfMemory))
  -- within the old capacity it succeeds
  pub succeeds : length old + additional ≤ old_capacity → IsOk r
  -- the capacity never falls
  pub capacity : old_capacity ≤ new_capacity
