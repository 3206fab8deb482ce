-- The records of growth of a boolean array.
use Rattle.std.specs.Prelude.{◌≡◌, ◌+◌, ◌≤◌, ◌^◌, ◌↔◌, List, ◌++◌, Bool, Option, length, Result, OnOk, OnErr, IsOk, IsErrOf}
use Rattle.arrow2_types.specs.declared.error.Error.{Error}
use Rattle.arrow2_types.specs.declared.error.Error.TheVariants.{Overflow}
use Rattle.arrow2_types.specs.Failures.{OnlyOverflowOrOutOfMemory}
use Rattle.arrow2_array.specs.Items.{GrowingBoolean}

-- growth by these items, all of them or none
pub record AppendsBooleans {T : Type 0} (r : Result T Error) (old new : GrowingBoolean) (more : List (Option Bool)) : Type 0 where
  -- they come after the others
  pub ok : OnOk r (new.items ≡ old.items ++ more)
  -- an error leaves the items
  pub err : OnErr r (new.items ≡ old.items)
  -- it overflows exactly where there would be more items than a usize counts
  pub overflow : IsErrOf r Overflow ↔ (2 ^ 64 ≤ length old.items + length more)
  -- the only other error is out of memory
  pub only : OnlyOverflowOrOutOfMemory r
  -- within the capacity it succeeds
  pub succeeds : length old.items + length more ≤ old.capacity → IsOk r
  -- the capacity never falls
  pub capacity : old.capacity ≤ new.capacity
