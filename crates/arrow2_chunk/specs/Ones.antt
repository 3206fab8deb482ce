-- The indices at which a list of booleans is true.
use Rattle.std.specs.Prelude.{ℕ, List, Bool, length, filter, slice_index_or, false}
use Rattle.std.specs.List.{range_with_len}

-- the indices of the true items, rising
unfoldable pub ones : List Bool → List ℕ
ones items = filter (λ i. slice_index_or items i false) (range_with_len 0 (length items))
