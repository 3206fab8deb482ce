-- Each line is one command at most, and each command is spelled in one way.
use Rattle.std.proofs.Common.{◌≡◌, ◌∙◌, sym, ap, refl, ◌<◌, ℕ, List, [], ◌∷◌, length, Bool, true, false, cond, subst, ◌⊎◌, inl, inr, arith, Option, Some, None, option_map}
use Rattle.std.specs.Option.{option_or}
use Rattle.std.specs.List.{list_any, list_all}
use Rattle.std.proofs.lemmas.Option.{none-some}
use Rattle.arrow2_script.specs.Lines.{line_parts, words_of, is_blank}
use Rattle.arrow2_script.specs.Commands.{bitmap_command_of, offset_command_of, value_command_of, storage_command_of, kernel_command_of, growth_command_of, array_command_of, named_command, command_of, command_in, command_words, CommandFits}
use Rattle.arrow2_script.specs.declared.command.Command.{Command}
use Rattle.arrow2_script.specs.declared.command.Command.TheVariants.{Bitmap, Offset, Value, Storage, Kernel, Growth, Array}
use Rattle.arrow2_script.proofs.KindLemmas.{Parses}
use Rattle.arrow2_script.proofs.WordLemmas.{mapped, some_or_none}
use Rattle.arrow2_script.proofs.SpellingLemmas.{is_word, words_there}
use Rattle.arrow2_script.proofs.BitmapCommandLemmas.{bitmap_parses, bitmap_of-words}
use Rattle.arrow2_script.proofs.OffsetCommandLemmas.{offset_parses, offset_of-words}
use Rattle.arrow2_script.proofs.ValueCommandLemmas.{value_parses, value_of-words}
use Rattle.arrow2_script.proofs.StorageCommandLemmas.{storage_parses, storage_of-words}
use Rattle.arrow2_script.proofs.KernelCommandLemmas.{kernel_parses, kernel_of-words}
use Rattle.arrow2_script.proofs.GrowthCommandLemmas.{growth_parses, growth_of-words}
use Rattle.arrow2_script.proofs.ArrayCommandLemmas.{array_parses, array_of-words}

-- a value that is one of two
either_way : {A : Type 0} (a b : Option A) (y : A) → option_or a b ≡ Some y → (a ≡ Some y) ⊎ (b ≡ Some y)
either_way None b y e = inr e
either_way (Some x) b y e = inl e

named_parses : (name : List ℕ) (words : List (List ℕ)) (command : Command) → named_command name words ≡ Some command → Parses CommandFits command_words name words command
unfolding named_command
named_parses name words command =
    of_kind Bitmap (bitmap_command_of name words) (bitmap_parses name words) _ (
    of_kind Offset (offset_command_of name words) (offset_parses name words) _ (
    of_kind Value (value_command_of name words) (value_parses name words) _ (
    of_kind Storage (storage_command_of name words) (storage_parses name words) _ (
    of_kind Kernel (kernel_command_of name words) (kernel_parses name words) _ (
    of_kind Growth (growth_command_of name words) (growth_parses name words) _ (
    only_kind Array (array_command_of name words) (array_parses name words)))))))
  where
    only_kind : {K : Type 0} (kind : K → Command) (read : Option K) → ((c : K) → read ≡ Some c → Parses CommandFits command_words name words (kind c)) → option_map kind read ≡ Some command → Parses CommandFits command_words name words command
    only_kind kind read parses e =
        let p = mapped kind read command e in
        subst (λ c. Parses CommandFits command_words name words c) p.2 (parses p.0 p.1)

    of_kind : {K : Type 0} (kind : K → Command) (read : Option K) → ((c : K) → read ≡ Some c → Parses CommandFits command_words name words (kind c)) → (next : Option Command) → (next ≡ Some command → Parses CommandFits command_words name words command) → option_or (option_map kind read) next ≡ Some command → Parses CommandFits command_words name words command
    of_kind kind read parses next others e = elim (either_way (option_map kind read) next command e) [
      | inl q ↦ only_kind kind read parses q
      | inr q ↦ others q
    ]

-- words that are parsed as a command are its words
pub command_parses : (words : List (List ℕ)) (command : Command) → command_of words ≡ Some command → CommandFits command × (words ≡ command_words command) × (list_all is_word words ≡ true)
unfolding command_of
command_parses [] command e = absurd (none-some command e)
command_parses (name ∷ words) command e = named_parses name words command e

-- there are some
pub some_words : (words : List (List ℕ)) (command : Command) → command_of words ≡ Some command → 0 < length words
unfolding command_of
some_words [] command e = absurd (none-some command e)
some_words (name ∷ words) command e = omega arith

-- the words of a command are parsed as it
pub command_of-words : (command : Command) → CommandFits command → command_of (command_words command) ≡ Some command
command_of-words (Bitmap command) fits = bitmap_of-words command fits
command_of-words (Offset command) fits = offset_of-words command fits
command_of-words (Value command) fits = value_of-words command fits
command_of-words (Storage command) fits = storage_of-words command fits
command_of-words (Kernel command) fits = kernel_of-words command fits
command_of-words (Growth command) fits = growth_of-words command fits
command_of-words (Array command) fits = array_of-words command fits

-- parts spell no command if one of them is blank
blank_states_none : (parts : List (List ℕ)) → list_any is_blank parts ≡ true → command_of parts ≡ None
blank_states_none parts blank = elim (some_or_none (command_of parts)) [
  | inl p ↦
      let there = words_there parts (command_parses parts p.0 p.1).2 in
      cc
  | inr e ↦ e
]

whichever : (blank : Bool) (parts : List (List ℕ)) → (blank ≡ true → command_of parts ≡ command_of []) → command_of parts ≡ command_of (cond blank [] parts)
whichever true parts none = none refl
whichever false parts none = refl

-- all parts of a line are parsed as its words are
pub command_in-parts : (line : List ℕ) → command_of (line_parts line) ≡ command_in line
unfolding command_in words_of command_of
command_in-parts line = whichever (list_any is_blank (line_parts line)) (line_parts line) (blank_states_none (line_parts line))

-- the command of a line, from its first part and the others
pub first_part : (line name : List ℕ) (others : List (List ℕ)) → line_parts line ≡ name ∷ others → command_in line ≡ named_command name others
unfolding command_of
first_part line name others e = sym (command_in-parts line) ∙ ap command_of e

pub no_part : (line : List ℕ) → line_parts line ≡ [] → command_in line ≡ None
unfolding command_of
no_part line e = sym (command_in-parts line) ∙ ap command_of e

pub ruleset parsing = (first_part, no_part)
