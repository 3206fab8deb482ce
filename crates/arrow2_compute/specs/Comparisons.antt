-- Comparisons of byte strings and of booleans.
use Rattle.std.specs.Prelude.{ℕ, List, Bool, not, nat_eq, ◌&&◌, ◌||◌, Option}
use Rattle.std.specs.Cmp.Lexicographic.{pointwise, slice_partial_cmp}
use Rattle.std.specs.Ordering.{as_partial_cmp, nat_cmp}
use Rattle.std.specs.Simd.Lanes.{zip2}
use Rattle.std.specs.declared.cmp.Ordering.{Ordering}
use Rattle.arrow2_numeric.specs.Pairs.{of_both}
use Rattle.arrow2_text.specs.Binary.{BinaryParts, binary_items}

-- whether two byte strings have the same bytes
abbrev pub bytes_eq : List ℕ → List ℕ → Bool
bytes_eq = pointwise nat_eq

-- the order of byte strings: the first bytes that differ decide, and if none differ, the shorter byte string is less
abbrev pub bytes_cmp : List ℕ → List ℕ → Option Ordering
bytes_cmp = slice_partial_cmp (as_partial_cmp nat_cmp)

-- the results of a comparison of two arrays, index by index: null where either item is null
abbrev pub compared : (List ℕ → List ℕ → Bool) → BinaryParts → BinaryParts → List (Option Bool)
compared compare lhs rhs = zip2 (of_both compare) (binary_items lhs) (binary_items rhs)

-- whether two booleans are equal
abbrev pub bool_eq : Bool → Bool → Bool
bool_eq a b = (a && b) || (not a && not b)

-- the order of booleans: `false` is less than `true`
abbrev pub bool_lt : Bool → Bool → Bool
bool_lt a b = not a && b

-- whether a boolean is at most another
abbrev pub bool_le : Bool → Bool → Bool
bool_le a b = not a || b
