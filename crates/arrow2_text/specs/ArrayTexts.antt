-- The texts of arrays.
use Rattle.std.specs.Prelude.{ℕ, Bool, List, Option, Some, codes, decimal, if◌then◌else◌}
use Rattle.std.specs.Fmt.{debug_list}

-- the name of an array of byte strings, by whether its offsets have 64 bits
abbrev pub binary_head : Bool → List ℕ
binary_head large = if large then codes "LargeBinaryArray" else codes "BinaryArray"

-- the same for an array of texts
abbrev pub text_head : Bool → List ℕ
text_head large = if large then codes "LargeUtf8Array" else codes "Utf8Array"

-- what `{:?}` writes of bytes: their numbers in brackets
abbrev pub bytes_output : List ℕ → Option (List ℕ)
bytes_output bytes = debug_list (λ byte. Some (decimal byte)) bytes
