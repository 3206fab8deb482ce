-- Growth that succeeds.
use Rattle.std.proofs.Common.{ℕ, ◌≤◌, List, Ok, rules}
use Rattle.arrow2_types.specs.declared.growth_error.GrowthError.{GrowthError}
use Rattle.arrow2_offset.specs.Offsets.{GrowingOffsets, GrownBy, slots}
use Rattle.arrow2_offset.specs.Growth.{Grows}

pub grown : {T E : Type 0} (stated : GrowthError → E) (reached greatest : ℕ) (done : T) (old new : GrowingOffsets) (more : List ℕ) → slots old ≤ old.capacity → GrownBy more old new → reached ≤ greatest → old.capacity ≤ new.capacity → Grows stated (Ok done) old new more reached greatest
grown stated reached greatest done old new more held by within larger = search rules
