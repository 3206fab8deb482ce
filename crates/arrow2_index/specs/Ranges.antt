-- Rising runs of whole numbers.
use Rattle.std.specs.Prelude.{ℤ, pos, ◌+ℤ◌, List, map}
use Rattle.std.specs.List.{range_with_len}
use Rattle.std.specs.Int.{int_gap}

-- the whole numbers from a up to the one before b
unfoldable pub integers : ℤ → ℤ → List ℤ
integers a b = map (λ k. a +ℤ pos k) (range_with_len 0 (int_gap a b))
