-- Values with their validity (Arrow columnar format, "Validity bitmaps": a slot is null where its bit is not set).
use Rattle.std.specs.Prelude.{List, [], ◌∷◌, Bool, Some, None, Option, if◌then◌else◌}

-- the meaning of a slot: its value where it is valid
abbrev pub slot : {X : Type 0} → X → Bool → Option X
slot x valid = if valid then Some x else None

-- the slots of values and their validity, which has one item for each value
abbrev pub zipped : {X : Type 0} → List X → List Bool → List (Option X)
zipped [] valid = []
zipped (x ∷ xs) [] = []
zipped (x ∷ xs) (valid ∷ others) = slot x valid ∷ zipped xs others
