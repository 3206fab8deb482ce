-- Validities that a call may be given or not.
use Rattle.std.specs.Prelude.{ℕ, List, Bool, true, Option, Some, None, if◌then◌else◌, replicate}
use Rattle.arrow2_model.specs.Lists.{bits, part}
use Rattle.arrow2_ffi.specs.declared.bits_input.Bits.{Bits}
use Rattle.arrow2_ffi.specs.Ranges.{IsInside}

-- the validity that a call was given: none if `all_valid` is true, else its bytes and its first bit
abbrev pub given_validity : Bool → List ℕ → ℕ → Option (List ℕ × ℕ)
given_validity all_valid bytes offset = if all_valid then None else Some (bytes, offset)

-- the validity that a call was given as bits, or none: its bytes and its first bit
abbrev pub validity_bits : Option Bits → Option (List ℕ × ℕ)
validity_bits None = None
validity_bits (Some b) = Some (b.0.now, b.1)

-- which of n items are not null by a validity: all of them where there is none
abbrev pub items_not_null : Option (List ℕ × ℕ) → ℕ → List Bool
items_not_null None n = replicate n true
items_not_null (Some v) n = part (bits v.0) v.1 n

-- a validity, if there is one, has a bit for each of n items
abbrev pub CoversItems : Option (List ℕ × ℕ) → ℕ → Type 0
CoversItems None n = Unit {0}
CoversItems (Some v) n = IsInside v.0 v.1 n
