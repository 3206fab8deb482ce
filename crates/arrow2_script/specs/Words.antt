-- The value of a word, and the word that spells it.
use Rattle.std.specs.Prelude.{ℕ, ◌+◌, ◌-◌, ◌*◌, ◌/◌, ◌%◌, ◌^◌, ◌==◌, ◌&&◌, ◌||◌, nat_lt, Bool, true, false, List, [], ◌∷◌, length, map, codes, Option, Some, None, option_and_then, option_map, is_some, if◌then◌else◌, bytes_eq, decimal}
use Rattle.std.specs.List.{list_all, join_with_byte, flat_map}
use Rattle.std.specs.Str.Parse.{digits_value}
use Rattle.arrow2_script.specs.Lines.{parts_between}
use Rattle.arrow2_script.specs.declared.words.Width.{Width}
use Rattle.arrow2_script.specs.declared.words.Width.TheVariants.{Bits8, Bits16, Bits32, Bits64}

-- the number that a word spells: it is below 2 ^ 64, and its decimal digits are the word
unfoldable pub number_of : List ℕ → Option ℕ
number_of word = let n = digits_value 10 word in if nat_lt n (2 ^ 64) && bytes_eq (decimal n) word then Some n else None

-- a number below a bound
abbrev pub below_of : ℕ → List ℕ → Option ℕ
below_of bound word = option_and_then (λ n. if nat_lt n bound then Some n else None) (number_of word)

-- a slot: a number below 16
abbrev pub slot_of : List ℕ → Option ℕ
slot_of word = below_of 16 word

-- the word of a slot that may be left out: `-` for none
abbrev pub optional_slot_word : Option ℕ → List ℕ
optional_slot_word None = codes "-"
optional_slot_word (Some slot) = decimal slot

-- a slot, or none
unfoldable pub optional_slot_of : List ℕ → Option (Option ℕ)
optional_slot_of word = if bytes_eq word (codes "-") then Some None else option_map Some (slot_of word)

-- the number of bits of a width
abbrev pub width_bits : Width → ℕ
width_bits Bits8 = 8
width_bits Bits16 = 16
width_bits Bits32 = 32
width_bits Bits64 = 64

-- the word of a width
abbrev pub width_word : Width → List ℕ
width_word Bits8 = codes "8"
width_word Bits16 = codes "16"
width_word Bits32 = codes "32"
width_word Bits64 = codes "64"

-- a width: one of the words `8`, `16`, `32` and `64`
unfoldable pub width_of : List ℕ → Option Width
width_of word =
    if bytes_eq word (codes "8") then Some Bits8
    else if bytes_eq word (codes "16") then Some Bits16
    else if bytes_eq word (codes "32") then Some Bits32
    else if bytes_eq word (codes "64") then Some Bits64
    else None

-- the byte of a bit: `1` for true, `0` for false
abbrev pub bit_byte : Bool → ℕ
bit_byte bit = if bit then 49 else 48

-- a bit: the word `0` or the word `1`
unfoldable pub bit_of : List ℕ → Option Bool
bit_of word = if bytes_eq word (codes "0") then Some false else if bytes_eq word (codes "1") then Some true else None

-- the text of a list of bits: `-` where it is empty, else a byte for each item, the first item first
abbrev pub bits_text : List Bool → List ℕ
bits_text [] = codes "-"
bits_text (item ∷ items) = map bit_byte (item ∷ items)

-- whether a byte is `0` or `1`
abbrev pub is_bit_byte : ℕ → Bool
is_bit_byte byte = byte == 48 || byte == 49

-- the items that bytes `0` and `1` spell
abbrev pub items_of_digits : List ℕ → List Bool
items_of_digits bytes = map (λ byte. byte == 49) bytes

-- a text of bits
unfoldable pub bits_of : List ℕ → Option (List Bool)
bits_of word =
    if bytes_eq word (codes "-") then Some []
    else if length word == 0 then None
    else if list_all is_bit_byte word then Some (items_of_digits word)
    else None

-- whether a word is a number
abbrev pub is_number : List ℕ → Bool
is_number word = is_some (number_of word)

-- the numbers that words spell
abbrev pub numbers_of_words : List (List ℕ) → List ℕ
numbers_of_words words = map (digits_value 10) words

-- the text of a list of numbers: `-` where it is empty, else the digits of each, joined by `,`
abbrev pub numbers_text : List ℕ → List ℕ
numbers_text [] = codes "-"
numbers_text (n ∷ ns) = join_with_byte 44 (map decimal (n ∷ ns))

-- a list of numbers
unfoldable pub number_list : List ℕ → Option (List ℕ)
number_list word =
    if bytes_eq word (codes "-") then Some []
    else if list_all is_number (parts_between 44 word) then Some (numbers_of_words (parts_between 44 word))
    else None

-- whether a byte is a hexadecimal digit: `0` to `9` or `a` to `f`
abbrev pub is_hex_digit : ℕ → Bool
is_hex_digit byte = (nat_lt 47 byte && nat_lt byte 58) || (nat_lt 96 byte && nat_lt byte 103)

-- the value of a hexadecimal digit
abbrev pub hex_value : ℕ → ℕ
hex_value byte = if nat_lt byte 58 then byte - 48 else byte - 87

-- the hexadecimal digit of a number below 16
abbrev pub hex_digit : ℕ → ℕ
hex_digit n = if nat_lt n 10 then n + 48 else n + 87

-- the bytes that hexadecimal digits spell, two digits each, that of the higher half first
unfoldable pub bytes_of_digits : List ℕ → List ℕ
bytes_of_digits [] = []
bytes_of_digits (high ∷ []) = []
bytes_of_digits (high ∷ low ∷ digits) = (16 * hex_value high + hex_value low) ∷ bytes_of_digits digits

-- the two digits of a byte
abbrev pub hex_digits : ℕ → List ℕ
hex_digits byte = hex_digit (byte / 16) ∷ hex_digit (byte % 16) ∷ []

-- the text of bytes in hexadecimal: `-` where there is none, else the two digits of each
abbrev pub hex_text : List ℕ → List ℕ
hex_text [] = codes "-"
hex_text (byte ∷ bytes) = flat_map hex_digits (byte ∷ bytes)

-- bytes in hexadecimal
unfoldable pub bytes_of : List ℕ → Option (List ℕ)
bytes_of word =
    if bytes_eq word (codes "-") then Some []
    else if length word == 0 then None
    else if length word % 2 == 0 && list_all is_hex_digit word then Some (bytes_of_digits word)
    else None
