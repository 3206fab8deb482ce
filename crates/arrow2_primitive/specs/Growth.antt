-- The contract of growth of an array.
use Rattle.std.specs.Prelude.{◌≡◌, ◌+◌, ◌≤◌, ◌^◌, ◌↔◌, List, ◌++◌, Option, length, Result, OnOk, OnErr, IsOk, IsErrOf}
use Rattle.arrow2_types.specs.declared.error.Error.{Error}
use Rattle.arrow2_types.specs.declared.error.Error.TheVariants.{Overflow}
use Rattle.arrow2_types.specs.Failures.{OnlyOverflowOrOutOfMemory}
use Rattle.arrow2_primitive.specs.Primitive.{GrowingPrimitive}

-- growth by these items, all of them or none
pub record AppendsItems {T X : Type 0} (r : Result T Error) (old new : GrowingPrimitive X) (more : List (Option X)) : Type 0 where
  -- these items come after the old ones
  pub ok : OnOk r (new.items ≡ old.items ++ more)
  -- an error leaves the items
  pub err : OnErr r (new.items ≡ old.items)
  -- the logical type stays
  pub data_type : new.data_type ≡ old.data_type
  -- `Overflow` comes exactly where there would be more items than a usize counts
  pub overflow : IsErrOf r Overflow ↔ (2 ^ 64 ≤ length old.items + length more)
  -- the only other error is running out of memory
  pub only : OnlyOverflowOrOutOfMemory r
  -- within the capacity it succeeds
  pub succeeds : length old.items + length more ≤ old.capacity → IsOk r
  -- the capacity never falls
  pub capacity : old.capacity ≤ new.capacity
