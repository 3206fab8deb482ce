-- Parts of the text that `{:?}` writes for an array. A text is `None` where nothing is stated of it.
use Rattle.std.specs.Prelude.{ℕ, zero, suc, List, [], Option, Some, None, codes}

-- the text of an item: that of its value, or the word `None` where the item is null
abbrev pub item_output : {X : Type 0} → (X → Option (List ℕ)) → Option X → Option (List ℕ)
item_output text None = Some (codes "None")
item_output text (Some x) = text x

-- the separator before an item, by its index
abbrev pub separator : ℕ → List ℕ
separator zero = []
separator (suc position) = codes ", "
