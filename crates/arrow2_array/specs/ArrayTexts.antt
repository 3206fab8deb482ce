-- The text of a boolean array.
use Rattle.std.specs.Prelude.{ℕ, List, [], ◌∷◌, ◌++◌, Bool, true, false, Option, Some, None, codes, flat_map}

-- the word for an item
abbrev pub item_word : Option Bool → List ℕ
item_word (Some true) = codes "true"
item_word (Some false) = codes "false"
item_word None = codes "None"

-- the words of items, with a comma between
unfoldable pub comma_list : List (Option Bool) → List ℕ
comma_list [] = []
comma_list (item ∷ items) = item_word item ++ flat_map (λ other. codes ", " ++ item_word other) items

-- the items in brackets, after the name of the type
abbrev pub array_text : List (Option Bool) → List ℕ
array_text items = codes "BooleanArray[" ++ (comma_list items ++ codes "]")
