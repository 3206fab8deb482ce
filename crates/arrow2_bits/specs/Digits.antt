-- The text of four bits.
use Rattle.std.specs.Prelude.{ℕ, List, [], ◌∷◌, true}
use Rattle.arrow2_model.specs.Lists.{bit}
use Rattle.arrow2_model.specs.Shown.{bit_character}

-- the characters of the four lowest bits of a number, the highest first
abbrev pub four_digits : ℕ → List ℕ
four_digits x = bit_character true (bit x 3) ∷ bit_character true (bit x 2) ∷ bit_character true (bit x 1) ∷ bit_character true (bit x 0) ∷ []
