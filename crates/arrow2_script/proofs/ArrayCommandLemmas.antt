-- Words spell one command on boolean arrays at most, and each is spelled in one way.
use Rattle.std.proofs.Common.{◌≡◌, refl, ℕ, List, ◌∷◌, true, codes, Some, None}
use Rattle.std.specs.List.{list_all}
use Rattle.std.proofs.lemmas.Option.{none-some}
use Rattle.arrow2_script.specs.KernelCommands.{kernel_command_of, operator_command_of, table_command_of}
use Rattle.arrow2_script.specs.ArrayCommands.{array_command_of, array_words, ArrayFits}
use Rattle.arrow2_script.specs.Commands.{bitmap_command_of, frozen_command_of, offset_command_of, frozen_offsets_command_of, value_command_of, storage_command_of, growth_command_of, named_command, command_of}
use Rattle.arrow2_script.specs.declared.array_command.ArrayCommand.{ArrayCommand}
use Rattle.arrow2_script.specs.declared.array_command.ArrayCommand.TheVariants.{New, List as Items, Nulls, Slice, And, Or}
use Rattle.arrow2_script.specs.declared.command.Command.TheVariants as Kinds
use Rattle.arrow2_script.proofs.KindLemmas.{numbers, optional_slots, slots, more, no_more, at_row, Parses}
use Rattle.arrow2_script.proofs.SpellingLemmas.{is_word}
use Rattle.arrow2_script.proofs.WordLemmas.{number_of-decimal, optional_slot_of-word, slot_of-decimal}

-- words that are parsed as a command on boolean arrays are its words
pub array_parses : (name : List ℕ) (words : List (List ℕ)) (command : ArrayCommand) → array_command_of name words ≡ Some command → Parses ArrayFits array_words name words command
unfolding array_command_of is_word
array_parses name words command =
    let parses = Parses ArrayFits array_words in
    at_row parses (codes "anew") refl (more slots (more slots (more optional_slots no_more))) (λ p. New p.0 p.1.0 p.1.1.0) (λ p f w. ((f.0, f.1.0, f.1.1.0), refl, w)) words name command _ (
    at_row parses (codes "alist") refl (more slots no_more) (λ p. Items p.0) (λ p f w. (f.0, refl, w)) words name command _ (
    at_row parses (codes "anulls") refl (more slots no_more) (λ p. Nulls p.0) (λ p f w. (f.0, refl, w)) words name command _ (
    at_row parses (codes "aslice") refl (more slots (more numbers (more numbers no_more))) (λ p. Slice p.0 p.1.0 p.1.1.0) (λ p f w. ((f.0, f.1.0, f.1.1.0), refl, w)) words name command _ (
    at_row parses (codes "aand") refl (more slots (more slots (more slots no_more))) (λ p. And p.0 p.1.0 p.1.1.0) (λ p f w. ((f.0, f.1.0, f.1.1.0), refl, w)) words name command _ (
    at_row parses (codes "aor") refl (more slots (more slots (more slots no_more))) (λ p. Or p.0 p.1.0 p.1.1.0) (λ p f w. ((f.0, f.1.0, f.1.1.0), refl, w)) words name command None (
    λ e. absurd (none-some command e)))))))

-- the words of a command on boolean arrays are parsed as it
pub array_of-words : (command : ArrayCommand) → ArrayFits command → command_of (array_words command) ≡ Some (Kinds.Array command)
unfolding command_of named_command bitmap_command_of frozen_command_of offset_command_of frozen_offsets_command_of value_command_of storage_command_of kernel_command_of operator_command_of table_command_of growth_command_of array_command_of
array_of-words (New to values validity) fits = rw (slot_of-decimal to fits.0, slot_of-decimal values fits.1, optional_slot_of-word validity fits.2) refl
array_of-words (Items slot) fits = rw (slot_of-decimal slot fits) refl
array_of-words (Nulls slot) fits = rw (slot_of-decimal slot fits) refl
array_of-words (Slice slot offset length) fits = rw (slot_of-decimal slot fits.0, number_of-decimal offset fits.1, number_of-decimal length fits.2) refl
array_of-words (And to left right) fits = rw (slot_of-decimal to fits.0, slot_of-decimal left fits.1, slot_of-decimal right fits.2) refl
array_of-words (Or to left right) fits = rw (slot_of-decimal to fits.0, slot_of-decimal left fits.1, slot_of-decimal right fits.2) refl
