-- What an item of a mask selects.
use Rattle.std.specs.Prelude.{Bool, false, Option, Some, None}

-- whether an item is true: one that is null is not
abbrev pub is_true : Option Bool → Bool
is_true None = false
is_true (Some value) = value
