-- The message for a validity with another length than the values.
use Rattle.std.specs.Prelude.{ℕ, ◌++◌, List, codes, decimal}

-- the message, with the length of the validity and the number of values
unfoldable pub unequal_lengths_message : ℕ → ℕ → List ℕ
unequal_lengths_message validity values =
    codes "The length of the validity (" ++ (decimal validity ++ (codes ") must equal the length of the values (" ++ (decimal values ++ codes ")")))
