-- The message for a length past the bytes.
use Rattle.std.specs.Prelude.{ℕ, ◌-◌, ◌*◌, ◌^◌, ◌++◌, List, codes, decimal, min}

-- the number of bits that the bytes hold, at most the greatest `usize`
abbrev pub bit_capacity : ℕ → ℕ
bit_capacity bytes = min (bytes * 8) (2 ^ 64 - 1)

-- the message, with the subject that is too long, its length, and the number of bits that the bytes hold
unfoldable pub too_long : List ℕ → ℕ → ℕ → List ℕ
too_long subject len bytes =
    subject ++ (codes " of the bitmap (" ++ (decimal len ++ (codes ") must be `<=` to the number of bytes times 8 (" ++ (decimal (bit_capacity bytes) ++ codes ")"))))
