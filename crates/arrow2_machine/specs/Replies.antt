-- The replies of the machine.
use Rattle.std.specs.Prelude.{ℕ, ℤ, unsigned_abs, Bool, List, [], ◌∷◌, ◌++◌, map, codes, Option, Some, None, if◌then◌else◌, decimal}
use Rattle.std.specs.List.{join_with_byte}
use Rattle.arrow2_script.specs.Words.{bit_byte}
use Rattle.arrow2_machine.specs.declared.line_error.LineError.{LineError}
use Rattle.arrow2_machine.specs.declared.line_error.LineError.TheVariants.{Syntax, Kind, Range, Length, Overflow}

-- the reply to a line that is rejected
abbrev pub rejected_text : LineError → List ℕ
rejected_text Syntax = codes "error syntax"
rejected_text Kind = codes "error kind"
rejected_text Range = codes "error range"
rejected_text Length = codes "error length"
rejected_text Overflow = codes "error overflow"

-- the reply with an item, or that there is none
abbrev pub item_reply : Option Bool → List ℕ
item_reply None = codes "none"
item_reply (Some item) = bit_byte item ∷ []

-- the reply that lists words: joined by one space, `-` where there is none
unfoldable pub words_text : List (List ℕ) → List ℕ
words_text [] = codes "-"
words_text (word ∷ words) = join_with_byte 32 (word ∷ words)

-- a word of such a list, with the space before it
abbrev pub listed_word : Bool → List ℕ → List ℕ
listed_word first word = if first then word else 32 ∷ word

-- the word of the length of a slot, or `null` where it has none
abbrev pub slot_word : Option ℕ → List ℕ
slot_word (Some length) = decimal length
slot_word None = codes "null"

-- the word of a run: its first index and its length, with byte 58 between
abbrev pub run_word : ℕ × ℕ → List ℕ
run_word run = decimal run.0 ++ 58 ∷ decimal run.1

-- the reply with an offset, or that there is none
abbrev pub offset_reply : Option ℤ → List ℕ
offset_reply None = codes "none"
offset_reply (Some offset) = decimal (unsigned_abs offset)

-- the byte of an item of a boolean array: `n` where it is null
abbrev pub array_byte : Option Bool → ℕ
array_byte None = 110
array_byte (Some item) = bit_byte item

-- the text of a boolean array: `-` where it is empty, else a byte for each item, the first item first
abbrev pub array_items_text : List (Option Bool) → List ℕ
array_items_text [] = codes "-"
array_items_text (item ∷ items) = map array_byte (item ∷ items)
