-- The lines of a script, and the words of a line.
use Rattle.std.specs.Prelude.{Bool, true, false, ◌≡◌, ◌≢◌, ℕ, ◌<◌, ◌==◌, List, [], ◌∷◌, ◌++◌, length, slice_index, if◌then◌else◌}
use Rattle.std.specs.List.{All, flat_map, list_any, slice_split, onto_first, join_with_byte}

-- the bytes up to each byte 10, and those after the last one where there are any
unfoldable pub lines_of : List ℕ → List (List ℕ)
lines_of [] = []
lines_of (b ∷ bytes) = if b == 10 then [] ∷ lines_of bytes else onto_first b (lines_of bytes)

-- the parts of a list of bytes between occurrences of one byte, empty ones too
unfoldable pub parts_between : ℕ → List ℕ → List (List ℕ)
parts_between byte bytes = slice_split (λ b. b == byte) bytes

-- the remaining parts: none after the last one
abbrev pub parts_left : ℕ → Bool → List ℕ → List (List ℕ)
parts_left byte true rest = []
parts_left byte false rest = parts_between byte rest

-- the parts of a line between its bytes 32
abbrev pub line_parts : List ℕ → List (List ℕ)
line_parts line = parts_between 32 line

-- whether a list of bytes is empty
abbrev pub is_blank : List ℕ → Bool
is_blank bytes = length bytes == 0

-- the words of a line: its parts if none is empty, else no words
unfoldable pub words_of : List ℕ → List (List ℕ)
words_of line = if list_any is_blank (line_parts line) then [] else line_parts line

-- a script, with a byte 10 added at its end if it is not empty and does not end with one
abbrev pub with_final_newline : List ℕ → List ℕ
with_final_newline [] = []
with_final_newline (b ∷ bytes) = if slice_index (b ∷ bytes) (length bytes) == 10 then b ∷ bytes else b ∷ bytes ++ 10 ∷ []

-- a line and the byte that ends it
abbrev pub with_newline : List ℕ → List ℕ
with_newline line = line ++ 10 ∷ []

-- a line that holds no byte 10
abbrev pub IsLine : List ℕ → Type 0
IsLine line = All (λ b. b ≢ 10) line

-- these are the lines of the script: they hold no byte 10, and each followed by byte 10 they are the script with a
-- final newline
abbrev pub AreLines : List ℕ → List (List ℕ) → Type 0
AreLines script lines = All IsLine lines × (flat_map with_newline lines ≡ with_final_newline script)

-- one byte or more, none of them 32
abbrev pub IsWord : List ℕ → Type 0
IsWord word = (0 < length word) × All (λ b. b ≢ 32) word

-- these are the words of the line: one or more, and joined by one byte 32 each they are the line
abbrev pub AreWordsOfLine : List ℕ → List (List ℕ) → Type 0
AreWordsOfLine line words = (0 < length words) × All IsWord words × (join_with_byte 32 words ≡ line)
