-- The contents of a vector after its whole slice was written.
use Rattle.std.proofs.Common.{◌≡◌, ℕ, List, ◌++◌, take, drop, length, arith}
use Rattle.std.proofs.lemmas.List.{take_all, drop_all, append-nil}

pub whole_written : (before after : List ℕ) (len : ℕ) → len ≡ length before → length after ≡ length before → take len (after ++ drop (length after) before) ≡ after
whole_written before after len e f = rw (drop_all (length after) before (omega arith), append-nil after) (take_all len after (omega arith))
