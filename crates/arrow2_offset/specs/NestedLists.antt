-- Lists one after the other.
use Rattle.std.specs.Prelude.{ℕ, List, [], ◌∷◌, take, drop}

-- a list cut into lists of these lengths, from its front on
abbrev pub cut : {X : Type 0} → List X → List ℕ → List (List X)
cut items [] = []
cut items (n ∷ lengths) = take n items ∷ cut (drop n items) lengths
