-- Words spell one command on stored bits at most, and each is spelled in one way.
use Rattle.std.proofs.Common.{◌≡◌, refl, ℕ, List, ◌∷◌, true, codes, Some, None}
use Rattle.std.specs.List.{list_all}
use Rattle.std.proofs.lemmas.Option.{none-some}
use Rattle.arrow2_script.specs.StorageCommands.{storage_command_of, storage_words, StorageFits}
use Rattle.arrow2_script.specs.Commands.{bitmap_command_of, frozen_command_of, offset_command_of, frozen_offsets_command_of, value_command_of, named_command, command_of}
use Rattle.arrow2_script.specs.declared.storage_command.StorageCommand.{StorageCommand}
use Rattle.arrow2_script.specs.declared.storage_command.StorageCommand.TheVariants.{Raw, Set, Words, Runs}
use Rattle.arrow2_script.specs.declared.command.Command.TheVariants as Kinds
use Rattle.arrow2_script.proofs.KindLemmas.{bits, hex_bytes, numbers, slots, widths, more, no_more, at_row, Parses}
use Rattle.arrow2_script.proofs.SpellingLemmas.{is_word}
use Rattle.arrow2_script.proofs.WordLemmas.{bit_of-byte, number_of-decimal, slot_of-decimal, width_of-word}
use Rattle.arrow2_script.proofs.HexLemmas.{bytes_of-text}

-- words that are parsed as a command on stored bits are its words
pub storage_parses : (name : List ℕ) (words : List (List ℕ)) (command : StorageCommand) → storage_command_of name words ≡ Some command → Parses StorageFits storage_words name words command
unfolding storage_command_of is_word
storage_parses name words command =
    let parses = Parses StorageFits storage_words in
    at_row parses (codes "raw") refl (more slots (more hex_bytes (more numbers (more numbers no_more)))) (λ p. Raw p.0 p.1.0 p.1.1.0 p.1.1.1.0) (λ p f w. ((f.0, f.1.0, f.1.1.0, f.1.1.1.0), refl, w)) words name command _ (
    at_row parses (codes "set") refl (more slots (more numbers (more bits no_more))) (λ p. Set p.0 p.1.0 p.1.1.0) (λ p f w. ((f.0, f.1.0), refl, w)) words name command _ (
    at_row parses (codes "words") refl (more slots (more widths no_more)) (λ p. Words p.0 p.1.0) (λ p f w. (f.0, refl, w)) words name command _ (
    at_row parses (codes "runs") refl (more slots no_more) (λ p. Runs p.0) (λ p f w. (f.0, refl, w)) words name command None (
    λ e. absurd (none-some command e)))))

-- the words of a command on stored bits are parsed as it
pub storage_of-words : (command : StorageCommand) → StorageFits command → command_of (storage_words command) ≡ Some (Kinds.Storage command)
unfolding command_of named_command bitmap_command_of frozen_command_of offset_command_of frozen_offsets_command_of value_command_of storage_command_of
storage_of-words (Raw slot bytes offset length) fits = rw (slot_of-decimal slot fits.0, bytes_of-text bytes fits.1, number_of-decimal offset fits.2, number_of-decimal length fits.3) refl
storage_of-words (Set slot index bit) fits = rw (slot_of-decimal slot fits.0, number_of-decimal index fits.1, bit_of-byte bit) refl
storage_of-words (Words slot width) fits = rw (slot_of-decimal slot fits, width_of-word width) refl
storage_of-words (Runs slot) fits = rw (slot_of-decimal slot fits) refl
