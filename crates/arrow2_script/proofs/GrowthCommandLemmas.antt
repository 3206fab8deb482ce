-- Words spell one command by which a bitmap grows at most, and each is spelled in one way.
use Rattle.std.proofs.Common.{◌≡◌, refl, ℕ, List, ◌∷◌, true, codes, Some, None}
use Rattle.std.specs.List.{list_all}
use Rattle.std.proofs.lemmas.Option.{none-some}
use Rattle.arrow2_script.specs.KernelCommands.{kernel_command_of, operator_command_of, table_command_of}
use Rattle.arrow2_script.specs.GrowthCommands.{growth_command_of, growth_words, GrowthFits}
use Rattle.arrow2_script.specs.Commands.{bitmap_command_of, frozen_command_of, offset_command_of, frozen_offsets_command_of, value_command_of, storage_command_of, named_command, command_of}
use Rattle.arrow2_script.specs.declared.growth_command.GrowthCommand.{GrowthCommand}
use Rattle.arrow2_script.specs.declared.growth_command.GrowthCommand.TheVariants.{Fill, Append}
use Rattle.arrow2_script.specs.declared.command.Command.TheVariants as Kinds
use Rattle.arrow2_script.proofs.KindLemmas.{bits, numbers, slots, more, no_more, at_row, Parses}
use Rattle.arrow2_script.proofs.SpellingLemmas.{is_word}
use Rattle.arrow2_script.proofs.WordLemmas.{bit_of-byte, number_of-decimal, slot_of-decimal}

-- words that are parsed as a command by which a bitmap grows are its words
pub growth_parses : (name : List ℕ) (words : List (List ℕ)) (command : GrowthCommand) → growth_command_of name words ≡ Some command → Parses GrowthFits growth_words name words command
unfolding growth_command_of is_word
growth_parses name words command =
    let parses = Parses GrowthFits growth_words in
    at_row parses (codes "fill") refl (more slots (more numbers (more bits no_more))) (λ p. Fill p.0 p.1.0 p.1.1.0) (λ p f w. ((f.0, f.1.0), refl, w)) words name command _ (
    at_row parses (codes "append") refl (more slots (more slots no_more)) (λ p. Append p.0 p.1.0) (λ p f w. ((f.0, f.1.0), refl, w)) words name command None (
    λ e. absurd (none-some command e)))

-- the words of a command by which a bitmap grows are parsed as it
pub growth_of-words : (command : GrowthCommand) → GrowthFits command → command_of (growth_words command) ≡ Some (Kinds.Growth command)
unfolding command_of named_command bitmap_command_of frozen_command_of offset_command_of frozen_offsets_command_of value_command_of storage_command_of kernel_command_of operator_command_of table_command_of growth_command_of
growth_of-words (Fill slot additional bit) fits = rw (slot_of-decimal slot fits.0, number_of-decimal additional fits.1, bit_of-byte bit) refl
growth_of-words (Append to from) fits = rw (slot_of-decimal to fits.0, slot_of-decimal from fits.1) refl
