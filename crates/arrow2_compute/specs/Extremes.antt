-- The least and the greatest of booleans.
use Rattle.std.specs.Prelude.{◌≡◌, ◌⊎◌, [], List, Bool, not, Option, All, Contains, MatchOption}

-- the result is None where there is no value, else one of the values: the wanted boolean, or the other one, which each
-- value is then
abbrev pub IsFirstChoice : Bool → List Bool → Option Bool → Type 0
IsFirstChoice wanted values result = MatchOption result (values ≡ []) (λ x. Contains values x × ((x ≡ wanted) ⊎ ((x ≡ not wanted) × All (λ y. y ≡ not wanted) values)))
