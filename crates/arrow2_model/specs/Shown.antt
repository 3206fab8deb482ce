-- The text that shows some of the bits of bytes, byte by byte and the highest bit of each byte first.
use Rattle.std.specs.Prelude.{ℕ, ◌+◌, ◌*◌, ◌/◌, List, ◌++◌, Bool, false, ◌&&◌, nat_le, nat_lt, length, map, filter, reverse, slice_index_or, codes, if◌then◌else◌}
use Rattle.std.specs.List.{range_with_len, list_any, join_by}
use Rattle.arrow2_model.specs.Lists.{bits}

-- bit p is one of the len bits from bit offset on
abbrev pub is_shown : ℕ → ℕ → ℕ → Bool
is_shown offset len p = nat_le offset p && nat_lt p (offset + len)

-- the character of a bit: `1` or `0` where it is shown, else `_`
abbrev pub bit_character : Bool → Bool → ℕ
bit_character shows value = if shows then (if value then 49 else 48) else 95

-- byte j: `0b`, and the characters of its eight bits from the highest to the lowest
unfoldable pub shown_byte : List ℕ → ℕ → ℕ → ℕ → List ℕ
shown_byte bytes offset len j = codes "0b" ++ map (λ p. bit_character (is_shown offset len p) (slice_index_or (bits bytes) p false)) (reverse (range_with_len (8 * j) 8))

-- the indices of the bytes that hold a shown bit, rising
unfoldable pub shown_indices : List ℕ → ℕ → ℕ → List ℕ
shown_indices bytes offset len = filter (λ j. list_any (is_shown offset len) (range_with_len (8 * j) 8)) (range_with_len 0 (length bytes))

-- the text of the len bits from bit offset on: each byte that holds one of them, in brackets and joined by commas
unfoldable pub shown : List ℕ → ℕ → ℕ → List ℕ
shown bytes offset len = codes "[" ++ (join_by (shown_byte bytes offset len) (codes ", ") (shown_indices bytes offset len) ++ codes "]")

-- byte j of the text of a list of items: `0b`, and the characters of the eight items from item 8 * j on, from the last
-- to the first, with `_` past the end of the list
abbrev pub items_byte : List Bool → ℕ → List ℕ
items_byte items j = codes "0b" ++ map (λ p. bit_character (nat_lt p (length items)) (slice_index_or items p false)) (reverse (range_with_len (8 * j) 8))

-- the text of a list of items: the text of bytes that hold just these items, from bit 0 on
abbrev pub items_text : List Bool → List ℕ
items_text items = codes "[" ++ (join_by (items_byte items) (codes ", ") (range_with_len 0 ((length items + 7) / 8)) ++ codes "]")
