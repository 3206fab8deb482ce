-- The tests of an export on the ranges and slices that it gets.
use Rattle.std.specs.Prelude.{◌≡◌, ℕ, ◌+◌, ◌*◌, ◌/◌, ◌≤◌, List, [], ◌∷◌, Bool, length, map}
use Rattle.arrow2_model.specs.Lists.{bits, part}
use Rattle.arrow2_ffi.specs.declared.bits_input.Bits.{Bits}

-- the n bits from bit o on are inside the bytes
abbrev pub IsInside : List ℕ → ℕ → ℕ → Type 0
IsInside bytes o n = o + n ≤ 8 * length bytes

-- for each pair (bytes, o) of `inputs`, the n bits from bit o on are inside the bytes
abbrev pub AreInside : ℕ → List (List ℕ × ℕ) → Type 0
AreInside n [] = Unit {0}
AreInside n (input ∷ inputs) = IsInside input.0 input.1 n × AreInside n inputs

-- for each pair (bytes, o) of `inputs`, the n bits from bit o on
abbrev pub inputs_of : ℕ → List (List ℕ × ℕ) → List (List Bool)
inputs_of n inputs = map (λ input. part (bits input.0) input.1 n) inputs

-- both slices have the same number of items
abbrev pub HaveEqualLengths : List ℕ → List ℕ → Type 0
HaveEqualLengths l r = length l ≡ length r

-- the bytes are exactly those that n bits need
abbrev pub HasBytesForBits : List ℕ → ℕ → Type 0
HasBytesForBits bytes n = length bytes ≡ (n + 7) / 8

-- the first n of the bits `b`, which are bytes and the bit at which they begin
abbrev pub first_bits : Bits → ℕ → List Bool
first_bits b n = part (bits b.0.now) b.1 n

-- the first n of the bits `b` are inside their bytes
abbrev pub HasBits : Bits → ℕ → Type 0
HasBits b n = IsInside b.0.now b.1 n
