-- Bitmaps that are stored in their canonical bytes, from bit 0 on, and calls that return new bitmaps.
use Rattle.std.specs.Prelude.{◌≡◌, ℕ, List, Bool, length, take, IfOk, Result}
use Rattle.arrow2_types.specs.declared.error.Error.{Error}
use Rattle.arrow2_types.specs.Failures.{OnlyOutOfMemory}
use Rattle.arrow2_model.specs.Lists.{bits, canonical_bytes, BitmapStorage, items_of}

-- items in their canonical bytes, from bit 0 on: no byte is spare, and no bit after the last item is set
abbrev pub packed_storage : List Bool → BitmapStorage
packed_storage items = record { bytes = canonical_bytes items; offset = 0; len = length items }

-- a bitmap is stored as `packed_storage` of its items
abbrev pub IsPacked : BitmapStorage → Type 0
IsPacked b = b ≡ packed_storage (items_of b)

-- a call returns a bitmap of `count` items
pub record MakesPacked (r : Result BitmapStorage Error) (count : ℕ) : Type 0 where
  pub len : IfOk r (λ b. length (items_of b) ≡ count)
  -- in their canonical bytes, from bit 0 on
  pub storage : IfOk r IsPacked
  -- or the only error, out of memory
  pub only : OnlyOutOfMemory r

-- a call returns a bitmap of the first `count` bits of some bytes
pub record MakesOfBytes (r : Result BitmapStorage Error) (stored : List ℕ) (count : ℕ) : Type 0 where
  -- over exactly these bytes, from bit 0 on
  pub ok : IfOk r (λ b. b ≡ record { bytes = stored; offset = 0; len = count })
  pub items : IfOk r (λ b. items_of b ≡ take count (bits stored))
  pub len : IfOk r (λ b. length (items_of b) ≡ count)
  -- or the only error, out of memory
  pub only : OnlyOutOfMemory r
