-- The bytes that an iterator by words keeps.
use Rattle.std.specs.Prelude.{◌≡◌, ℕ, ◌+◌, ◌*◌, ◌<◌, ◌≤◌, ◌^◌, List, take, length}
use Rattle.arrow2_model.specs.Lists.{bits, unnum, part}

-- count words are still to come, from bit shift on; tail bits come after these words, and are the lowest bits of `word`
pub record IsChunkCursor (w : ℕ) (bytes : List ℕ) (shift count tail word : ℕ) : Type 0 where
  pub position : shift < 8
  pub within : shift + (w * count + tail) ≤ 8 * length bytes
  pub short : tail < w
  pub fits : w * count + tail < 2 ^ 64
  pub spilled : take tail (unnum w word) ≡ part (bits bytes) (shift + w * count) tail
