-- What a test returns for each value, with the validity.
use Rattle.std.proofs.Common.{◌≡◌, List, [], ◌∷◌, Bool, true, false, map, refl, ap, Some, None, option_map}
use Rattle.arrow2_walks.specs.Zipped.{zipped}

-- a function of each value that is there
pub map-zipped : {X Y : Type 0} (f : X → Y) (xs : List X) (vs : List Bool) → map (option_map f) (zipped xs vs) ≡ zipped (map f xs) vs
map-zipped f [] vs = refl
map-zipped f (x ∷ xs) [] = refl
map-zipped f (x ∷ xs) (true ∷ vs) = ap (λ l. Some (f x) ∷ l) (map-zipped f xs vs)
map-zipped f (x ∷ xs) (false ∷ vs) = ap (λ l. None ∷ l) (map-zipped f xs vs)
