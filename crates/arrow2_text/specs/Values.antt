-- Values of arrays as lists of bytes.
use Rattle.std.specs.Prelude.{ℕ, List, All}

-- `IsValue` holds of each of them
pub record AreValues (IsValue : List ℕ → Type 0) (values : List (List ℕ)) : Type 0 where
  pub each : All IsValue values
