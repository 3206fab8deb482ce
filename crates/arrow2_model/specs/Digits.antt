-- The base-256 digits of whole numbers: the bytes of the native types, the lowest first (Arrow columnar format,
-- "Byte order (Endianness)": little-endian). Big-endian bytes are the reverse.
use Rattle.std.specs.Prelude.{ℕ, zero, suc, ◌+◌, ◌-◌, ◌*◌, ◌/◌, ◌%◌, ◌^◌, List, [], ◌∷◌, ℤ, pos, negsuc, ◌+ℤ◌, ◌*ℤ◌, unsigned_abs, nat_lt, if◌then◌else◌, take}
use Rattle.std.specs.Int.{int_rem_euclid, int_div_euclid}

-- the remainder of a whole number modulo m: from 0 to m - 1, also of a negative one
abbrev pub residue : ℕ → ℤ → ℕ
residue m v = unsigned_abs (int_rem_euclid v (pos m))

-- the n lowest base-256 digits of a natural number, the lowest first
unfoldable pub low_digits : ℕ → ℕ → List ℕ
low_digits zero x = []
low_digits (suc n) x = (x % 256) ∷ low_digits n (x / 256)

-- the n base-256 digits of v mod 256 ^ n, the lowest first
unfoldable pub digits : ℕ → ℤ → List ℕ
digits n v = low_digits n (residue (256 ^ n) v)

-- the number whose base-256 digits these are, the lowest first: the sum of digit i times 256 ^ i
unfoldable pub digits_number : List ℕ → ℕ
digits_number [] = 0
digits_number (d ∷ ds) = d + 256 * digits_number ds

-- the number of the first n bytes
unfoldable pub natural_from : ℕ → List ℕ → ℕ
natural_from n bytes = digits_number (take n bytes)

-- the whole number that is x modulo m and lies from -(m / 2) to below m / 2
abbrev pub signed_residue : ℕ → ℕ → ℤ
signed_residue m x = (if nat_lt (2 * x) m then pos x else negsuc (m - suc x))

-- the signed number of the first n bytes, in two's complement
unfoldable pub integer_from : ℕ → List ℕ → ℤ
integer_from n bytes = signed_residue (256 ^ n) (natural_from n bytes)

-- the value of a number of 256 bits whose words are hi and lo: hi * 2 ^ 128 + (lo mod 2 ^ 128)
unfoldable pub words_value : ℤ → ℤ → ℤ
words_value hi lo = hi *ℤ pos (2 ^ 128) +ℤ pos (residue (2 ^ 128) lo)

-- the two words of a number of 256 bits
unfoldable pub high_word : ℤ → ℤ
high_word v = int_div_euclid v (pos (2 ^ 128))

unfoldable pub low_word : ℤ → ℤ
low_word v = signed_residue (2 ^ 128) (residue (2 ^ 128) v)
