-- Items chosen by a mask, and those that are not null.
use Rattle.std.specs.Prelude.{List, [], ◌∷◌, Bool, Option, Some, None, if◌then◌else◌}

-- the items at whose index the mask is true
abbrev pub selection : {X : Type 0} → List X → List Bool → List X
selection [] mask = []
selection (x ∷ xs) [] = []
selection (x ∷ xs) (keep ∷ mask) = if keep then x ∷ selection xs mask else selection xs mask

-- item by item, the item of the one list where the mask is true, and the item of the other list elsewhere
abbrev pub choice : {X : Type 0} → List Bool → List X → List X → List X
choice [] xs ys = []
choice (first ∷ mask) [] ys = []
choice (first ∷ mask) (x ∷ xs) [] = []
choice (first ∷ mask) (x ∷ xs) (y ∷ ys) = (if first then x else y) ∷ choice mask xs ys

-- the items that are not null
abbrev pub non_null_values : {X : Type 0} → List (Option X) → List X
non_null_values [] = []
non_null_values (Some x ∷ items) = x ∷ non_null_values items
non_null_values (None ∷ items) = non_null_values items
