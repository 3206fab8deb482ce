-- Words spell one command on values at most, and each is spelled in one way.
use Rattle.std.proofs.Common.{◌≡◌, refl, ℕ, List, ◌∷◌, true, codes, Some, None}
use Rattle.std.specs.List.{list_all}
use Rattle.std.proofs.lemmas.Option.{none-some}
use Rattle.arrow2_script.specs.ValueCommands.{value_command_of, value_words, ValueFits}
use Rattle.arrow2_script.specs.Commands.{bitmap_command_of, frozen_command_of, offset_command_of, frozen_offsets_command_of, named_command, command_of}
use Rattle.arrow2_script.specs.declared.value_command.ValueCommand.{ValueCommand}
use Rattle.arrow2_script.specs.declared.value_command.ValueCommand.TheVariants.{Copy, Compare}
use Rattle.arrow2_script.specs.declared.command.Command.TheVariants as Kinds
use Rattle.arrow2_script.proofs.KindLemmas.{slots, more, no_more, at_row, Parses}
use Rattle.arrow2_script.proofs.SpellingLemmas.{is_word}
use Rattle.arrow2_script.proofs.WordLemmas.{slot_of-decimal}

-- words that are parsed as a command on values are its words
pub value_parses : (name : List ℕ) (words : List (List ℕ)) (command : ValueCommand) → value_command_of name words ≡ Some command → Parses ValueFits value_words name words command
unfolding value_command_of is_word
value_parses name words command =
    let parses = Parses ValueFits value_words in
    at_row parses (codes "copy") refl (more slots (more slots no_more)) (λ p. Copy p.0 p.1.0) (λ p f w. ((f.0, f.1.0), refl, w)) words name command _ (
    at_row parses (codes "eq") refl (more slots (more slots no_more)) (λ p. Compare p.0 p.1.0) (λ p f w. ((f.0, f.1.0), refl, w)) words name command None (
    λ e. absurd (none-some command e)))

-- the words of a command on values are parsed as it
pub value_of-words : (command : ValueCommand) → ValueFits command → command_of (value_words command) ≡ Some (Kinds.Value command)
unfolding command_of named_command bitmap_command_of frozen_command_of offset_command_of frozen_offsets_command_of value_command_of
value_of-words (Copy from to) fits = rw (slot_of-decimal from fits.0, slot_of-decimal to fits.1) refl
value_of-words (Compare left right) fits = rw (slot_of-decimal left fits.0, slot_of-decimal right fits.1) refl
