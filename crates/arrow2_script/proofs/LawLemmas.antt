-- The laws of the script's grammar.
use Rattle.std.proofs.Common.{◌≡◌, ◌≢◌, ◌∙◌, sym, ap, refl, subst, ◌<◌, ℕ, List, [], ◌∷◌, ◌++◌, length, Bool, true, false, cond, ◌||◌, not, ◌⊎◌, inl, inr, arith, eqb, append_assoc, Some, ◌↔◌}
use Rattle.std.specs.List.{All, flat_map, list_any, list_all, slice_split, onto_first, join_with_byte}
use Rattle.std.proofs.lemmas.Bool.{not-true}
use Rattle.std.proofs.lemmas.Bool.Decides.{eqb_tells}
use Rattle.std.proofs.lemmas.List.Elements.{All-cons, All-nil}
use Rattle.std.proofs.lemmas.List.Splits.{join_with_byte-slice_split}
use Rattle.arrow2_script.specs.Lines.{lines_of, line_parts, parts_between, words_of, is_blank, with_final_newline, with_newline, IsLine, AreLines, IsWord, AreWordsOfLine}
use Rattle.arrow2_script.specs.Commands.{command_of, command_in, command_words, IsSpelling}
use Rattle.arrow2_script.specs.declared.command.Command.{Command}
use Rattle.arrow2_script.proofs.LineLemmas.{lines_of-cut, parts-joined, parts_all}
use Rattle.arrow2_script.proofs.SpellingLemmas.{is_word, filled}
use Rattle.arrow2_script.proofs.WordLemmas.{both}
use Rattle.arrow2_script.proofs.CommandLemmas.{command_parses, command_of-words, some_words}

-- a byte before the first part, where it is not the one that cuts
free_longer : (cut b : ℕ) (parts : List (List ℕ)) → b ≢ cut → All (λ part. All (λ x. x ≢ cut) part) parts → All (λ part. All (λ x. x ≢ cut) part) (onto_first b parts)
free_longer cut b [] other all = All-cons (λ part. All (λ x. x ≢ cut) part) (b ∷ []) [] (All-cons (λ x. x ≢ cut) b [] other (All-nil (λ x. x ≢ cut))) (All-nil (λ part. All (λ x. x ≢ cut) part))
free_longer cut b (part ∷ parts) other all =
    let p = parts_all (λ x. All (λ y. y ≢ cut) x) part parts all in
    All-cons (λ x. All (λ y. y ≢ cut) x) (b ∷ part) parts (All-cons (λ x. x ≢ cut) b part other p.0) p.1

-- ---- lines

closed_moved : (t : Bool) (b : ℕ) (bytes : List ℕ) → cond t (b ∷ bytes) ((b ∷ bytes) ++ 10 ∷ []) ≡ b ∷ cond t bytes (bytes ++ 10 ∷ [])
closed_moved true b bytes = refl
closed_moved false b bytes = refl

closed-cons : (b c : ℕ) (bytes : List ℕ) → with_final_newline (b ∷ c ∷ bytes) ≡ b ∷ with_final_newline (c ∷ bytes)
closed-cons b c bytes = closed_moved _ b (c ∷ bytes)

-- a byte before a first line
first_longer : (b : ℕ) (lines : List (List ℕ)) → 0 < length lines → flat_map with_newline (onto_first b lines) ≡ b ∷ flat_map with_newline lines
first_longer b [] some = absurd (omega arith)
first_longer b (line ∷ lines) some = refl

more_lines : (t : Bool) (b : ℕ) (lines : List (List ℕ)) → 0 < length (cond t ([] ∷ lines) (onto_first b lines))
more_lines true b lines = omega arith
more_lines false b [] = omega arith
more_lines false b (line ∷ lines) = omega arith

some_lines : (b : ℕ) (bytes : List ℕ) → 0 < length (lines_of (b ∷ bytes))
unfolding lines_of
some_lines b bytes = more_lines (eqb b 10) b (lines_of bytes)

-- each line with its end, in order, is the script
lines_join : (script : List ℕ) → flat_map with_newline (lines_of script) ≡ with_final_newline script
unfolding lines_of
lines_join [] = refl
lines_join (b ∷ []) = elim (eqb_tells b 10) [ inl is ↦ rw is.1 refl | inr other ↦ rw other.0 refl ]
lines_join (b ∷ c ∷ bytes) =
    let others = lines_join (c ∷ bytes) in
    elim (eqb_tells b 10) [
      | inl is ↦ rw is.1 (ap (λ t. 10 ∷ t) others ∙ sym (closed-cons 10 c bytes))
      | inr other ↦ rw other.0 (first_longer b (lines_of (c ∷ bytes)) (some_lines c bytes) ∙ ap (λ t. b ∷ t) others ∙ sym (closed-cons b c bytes))
    ]

lines_free : (script : List ℕ) → All IsLine (lines_of script)
unfolding lines_of
lines_free [] = All-nil IsLine
lines_free (b ∷ bytes) = elim (eqb_tells b 10) [
  | inl is ↦ rw is.1 (All-cons IsLine [] (lines_of bytes) (All-nil (λ x. x ≢ 10)) (lines_free bytes))
  | inr other ↦ rw other.0 (free_longer 10 b (lines_of bytes) other.1 (lines_free bytes))
]

pub lines_are : (script : List ℕ) → AreLines script (lines_of script)
lines_are script = (lines_free script, lines_join script)

closed_lines : (script : List ℕ) → lines_of (with_final_newline script) ≡ lines_of script
unfolding lines_of
closed_lines [] = refl
closed_lines (b ∷ []) = elim (eqb_tells b 10) [ inl is ↦ rw is.1 refl | inr other ↦ rw (other.0, other.0) refl ]
closed_lines (b ∷ c ∷ bytes) =
    let others = closed_lines (c ∷ bytes) in
    rw (closed-cons b c bytes) (rw others refl)

lines_again : (lines : List (List ℕ)) → All IsLine lines → lines_of (flat_map with_newline lines) ≡ lines
unfolding lines_of
lines_again [] all = refl
lines_again (line ∷ lines) all =
    let p = parts_all IsLine line lines all in
    ap lines_of (append_assoc line (10 ∷ []) (flat_map with_newline lines)) ∙ lines_of-cut line (flat_map with_newline lines) p.0 ∙ ap (λ t. line ∷ t) (lines_again lines p.1)

pub lines_only : (script : List ℕ) (lines : List (List ℕ)) → AreLines script lines → lines ≡ lines_of script
lines_only script lines are = sym (lines_again lines are.0) ∙ ap lines_of are.1 ∙ closed_lines script

-- ---- words

spaceless : (bytes : List ℕ) → list_all (λ b. not (eqb b 32)) bytes ≡ true → All (λ b. b ≢ 32) bytes
spaceless [] e = All-nil (λ b. b ≢ 32)
spaceless (b ∷ bytes) e =
    let p = both (not (eqb b 32)) (list_all (λ x. not (eqb x 32)) bytes) e in
    let other : b ≢ 32 = grind (arith, p.0) in
    All-cons (λ x. x ≢ 32) b bytes other (spaceless bytes p.1)

there : (bytes : List ℕ) → is_blank bytes ≡ false → 0 < length bytes
there [] e = cc
there (b ∷ bytes) e = omega arith

word_passes : (word : List ℕ) → is_word word ≡ true → IsWord word
unfolding is_word
word_passes word e =
    let p = both (not (is_blank word)) (list_all (λ b. not (eqb b 32)) word) e in
    (there word (not-true (is_blank word) p.0), spaceless word p.1)

words_pass : (words : List (List ℕ)) → list_all is_word words ≡ true → All IsWord words
words_pass [] e = All-nil IsWord
words_pass (word ∷ words) e =
    let p = both (is_word word) (list_all is_word words) e in
    All-cons IsWord word words (word_passes word p.0) (words_pass words p.1)

parts_free : (line : List ℕ) → All (λ part. All (λ x. x ≢ 32) part) (slice_split (λ b. eqb b 32) line)
parts_free [] = All-cons (λ part. All (λ x. x ≢ 32) part) [] [] (All-nil (λ x. x ≢ 32)) (All-nil (λ part. All (λ x. x ≢ 32) part))
parts_free (b ∷ bytes) = elim (eqb_tells b 32) [
  | inl is ↦ rw is.1 (All-cons (λ part. All (λ x. x ≢ 32) part) [] (slice_split (λ x. eqb x 32) bytes) (All-nil (λ x. x ≢ 32)) (parts_free bytes))
  | inr other ↦ rw other.0 (free_longer 32 b (slice_split (λ x. eqb x 32) bytes) other.1 (parts_free bytes))
]

neither : (a b : Bool) → (a || b) ≡ false → (a ≡ false) × (b ≡ false)
neither true b e = cc
neither false b e = (refl, e)

all_words : (parts : List (List ℕ)) → list_any is_blank parts ≡ false → All (λ part. All (λ x. x ≢ 32) part) parts → All IsWord parts
all_words [] e all = All-nil IsWord
all_words (part ∷ parts) e all =
    let p = neither (is_blank part) (list_any is_blank parts) e in
    let q = parts_all (λ x. All (λ y. y ≢ 32) x) part parts all in
    All-cons IsWord part parts (there part p.0, q.0) (all_words parts p.1 q.1)

words_if : (blank : Bool) (line : List ℕ) → blank ≡ list_any is_blank (slice_split (λ b. eqb b 32) line) → 0 < length (cond blank [] (slice_split (λ b. eqb b 32) line)) → AreWordsOfLine line (cond blank [] (slice_split (λ b. eqb b 32) line))
words_if true line e some = absurd (omega arith)
words_if false line e some = (some, all_words (slice_split (λ b. eqb b 32) line) (sym e) (parts_free line), join_with_byte-slice_split 32 line)

pub words_are : (line : List ℕ) → 0 < length (words_of line) → AreWordsOfLine line (words_of line)
unfolding words_of parts_between
words_are line some = words_if (list_any is_blank (slice_split (λ b. eqb b 32) line)) line refl some

-- the parts of words that are joined are the words
parts_again : (words : List (List ℕ)) → 0 < length words → All IsWord words → line_parts (join_with_byte 32 words) ≡ words
parts_again words some all = parts-joined 32 words some (λ k d h. (all k d h).1)

none_blank : (words : List (List ℕ)) → All IsWord words → list_any is_blank words ≡ false
none_blank [] all = refl
none_blank (word ∷ words) all =
    let p = parts_all IsWord word words all in
    rw (filled word p.0.0, none_blank words p.1) refl

pub words_only : (line : List ℕ) (words : List (List ℕ)) → AreWordsOfLine line words → words_of line ≡ words
unfolding words_of
words_only line words are =
    let parts : line_parts line ≡ words = ap line_parts (sym are.2) ∙ parts_again words are.0 are.1 in
    rw (parts, none_blank words are.1) refl

pub words_law : (line : List ℕ) (words : List (List ℕ)) → 0 < length words → (words_of line ≡ words) ↔ AreWordsOfLine line words
words_law line words some = (λ e. let P : List (List ℕ) → Type 0 = λ w. AreWordsOfLine line w in subst P e (words_are line (rw e some)), words_only line words)

-- ---- commands

spelled : (line : List ℕ) (command : Command) → command_in line ≡ Some command → IsSpelling line command
unfolding command_in
spelled line command e =
    let p = command_parses (words_of line) command e in
    let are = words_are line (some_words (words_of line) command e) in
    (p.0, sym are.2 ∙ ap (λ t. join_with_byte 32 t) p.1)

read : (line : List ℕ) (command : Command) → IsSpelling line command → command_in line ≡ Some command
unfolding command_in
read line command is =
    let parts = command_words command in
    let parses = command_of-words command is.0 in
    let words = words_only line parts (some_words parts command parses, words_pass parts (command_parses parts command parses).2, sym is.1) in
    ap command_of words ∙ parses

pub command_law : (line : List ℕ) (command : Command) → (command_in line ≡ Some command) ↔ IsSpelling line command
command_law line command = (spelled line command, read line command)
