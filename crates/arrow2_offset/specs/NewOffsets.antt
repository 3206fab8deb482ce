-- Offsets made of a vector.
use Rattle.std.specs.Prelude.{ℤ, ◌-◌, map, Vec, vec_items, vec_capacity}
use Rattle.arrow2_offset.specs.Offsets.{GrowingOffsets, start_of, lengths_of}

-- the offsets that a vector holds, each item read as the number `value` gives; their capacity in lengths is one less
-- than the capacity of the vector
abbrev pub offsets_of_vec : {X Z : Type 0} → (X → ℤ) → Vec X Z → GrowingOffsets
offsets_of_vec value v = record { start = start_of (map value (vec_items v)); lengths = lengths_of (map value (vec_items v)); capacity = vec_capacity v - 1 }
