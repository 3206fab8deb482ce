-- The slots that a validity zip has left, by the items that its iterators have left, and its steps over them.
use Rattle.std.specs.Prelude.{List, Bool, Option, Some, map, option_map}
use Rattle.std.specs.Iterator.{YieldsFirst, YieldsFirstBy, YieldsLast, YieldsLastBy}
use Rattle.arrow2_walks.specs.Zipped.{zipped}
use Rattle.arrow2_walks.specs.declared.zip_validity.ZipValidityIter.{ZipValidityIter}
use Rattle.arrow2_walks.specs.declared.zip_validity.ZipValidity.{ZipValidity}
use Rattle.arrow2_walks.specs.declared.zip_validity.ZipValidity.TheVariants.{Required, Optional}
use Rattle.arrow2_walks.specs.Zips.{HasEqualLengths, MayHaveEqualLengths, StepsAlike, either_steps, validity_of, values_of, zip_validity_steps}

module _ {S T A : Type 0} (rest : S → List A) (valid : T → List Bool) where
  -- of values and their validity
  abbrev pub slots_of_both : ZipValidityIter S T → List (Option A)
  slots_of_both s = zipped (rest (values_of s)) (valid (validity_of s))

  -- of values with validity or without it
  abbrev pub slots_of : ZipValidity S T → List (Option A)
  slots_of (Required values) = map (λ x. Some x) (rest values)
  slots_of (Optional both) = slots_of_both both

-- the steps of a zip, where `rest` and `valid` list what its iterators have left, and `view` maps what the one over the
-- values yields to an item
module _ {S T A X : Type 0} (view : A → X) (rest : S → List X) (valid : T → List Bool) where
  -- where each iterator yields the first item of its list, the zip yields the first slot
  abbrev pub ZipYieldsFirst : Type 0
  ZipYieldsFirst = StepsAlike (HasEqualLengths rest valid) (zip_validity_steps (YieldsFirstBy view rest) (YieldsFirst valid)) (YieldsFirstBy (option_map view) (slots_of_both rest valid))

  -- where each iterator yields the last item of its list, the zip yields the last slot
  abbrev pub ZipYieldsLast : Type 0
  ZipYieldsLast = StepsAlike (HasEqualLengths rest valid) (zip_validity_steps (YieldsLastBy view rest) (YieldsLast valid)) (YieldsLastBy (option_map view) (slots_of_both rest valid))

  -- the same two where the validity may be missing
  abbrev pub OptionalZipYieldsFirst : Type 0
  OptionalZipYieldsFirst = StepsAlike (MayHaveEqualLengths rest valid) (either_steps (YieldsFirstBy view rest) (YieldsFirst valid)) (YieldsFirstBy (option_map view) (slots_of rest valid))

  abbrev pub OptionalZipYieldsLast : Type 0
  OptionalZipYieldsLast = StepsAlike (MayHaveEqualLengths rest valid) (either_steps (YieldsLastBy view rest) (YieldsLast valid)) (YieldsLastBy (option_map view) (slots_of rest valid))
