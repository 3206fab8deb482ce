-- The list of offsets after growing.
use Rattle.std.specs.Prelude.{◌≡◌, ℕ, ◌++◌, ℤ, List}
use Rattle.arrow2_offset.specs.Offsets.{start_of, lengths_of}

-- offsets that have grown by some lengths: these are appended, and nothing else changes
abbrev pub LengthenedBy : List ℕ → List ℤ → List ℤ → Type 0
LengthenedBy ns old new = (start_of new ≡ start_of old) × (lengths_of new ≡ lengths_of old ++ ns)
