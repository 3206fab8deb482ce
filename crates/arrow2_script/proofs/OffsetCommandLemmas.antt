-- Words spell one command on offsets at most, and each is spelled in one way.
use Rattle.std.proofs.Common.{◌≡◌, refl, ℕ, List, ◌∷◌, true, codes, Some, None}
use Rattle.std.specs.List.{list_all}
use Rattle.std.proofs.lemmas.Option.{none-some}
use Rattle.arrow2_script.specs.OffsetCommands.{offset_command_of, frozen_offsets_command_of, offset_words, OffsetFits}
use Rattle.arrow2_script.specs.Commands.{bitmap_command_of, frozen_command_of, named_command, command_of}
use Rattle.arrow2_script.specs.declared.offset_command.OffsetCommand.{OffsetCommand}
use Rattle.arrow2_script.specs.declared.offset_command.OffsetCommand.TheVariants.{New, Push, Pop, Extend, Offsets, Freeze, Slice, Zip}
use Rattle.arrow2_script.specs.declared.command.Command.TheVariants as Kinds
use Rattle.arrow2_script.proofs.KindLemmas.{number_lists, numbers, slots, more, no_more, at_row, Parses}
use Rattle.arrow2_script.proofs.SpellingLemmas.{is_word}
use Rattle.arrow2_script.proofs.WordLemmas.{number_of-decimal, slot_of-decimal}
use Rattle.arrow2_script.proofs.NumberListLemmas.{number_list-text}

-- words that are parsed as a command on offsets are its words
pub offset_parses : (name : List ℕ) (words : List (List ℕ)) (command : OffsetCommand) → offset_command_of name words ≡ Some command → Parses OffsetFits offset_words name words command
unfolding offset_command_of frozen_offsets_command_of is_word
offset_parses name words command =
    let parses = Parses OffsetFits offset_words in
    at_row parses (codes "onew") refl (more slots (more numbers no_more)) (λ p. New p.0 p.1.0) (λ p f w. ((f.0, f.1.0), refl, w)) words name command _ (
    at_row parses (codes "opush") refl (more slots (more numbers no_more)) (λ p. Push p.0 p.1.0) (λ p f w. ((f.0, f.1.0), refl, w)) words name command _ (
    at_row parses (codes "opop") refl (more slots no_more) (λ p. Pop p.0) (λ p f w. (f.0, refl, w)) words name command _ (
    at_row parses (codes "oext") refl (more slots (more number_lists no_more)) (λ p. Extend p.0 p.1.0) (λ p f w. ((f.0, f.1.0), refl, w)) words name command _ (
    at_row parses (codes "ofreeze") refl (more slots no_more) (λ p. Freeze p.0) (λ p f w. (f.0, refl, w)) words name command _ (
    at_row parses (codes "olist") refl (more slots no_more) (λ p. Offsets p.0) (λ p f w. (f.0, refl, w)) words name command _ (
    at_row parses (codes "oslice") refl (more slots (more numbers (more numbers no_more))) (λ p. Slice p.0 p.1.0 p.1.1.0) (λ p f w. ((f.0, f.1.0, f.1.1.0), refl, w)) words name command _ (
    at_row parses (codes "zip") refl (more slots (more slots no_more)) (λ p. Zip p.0 p.1.0) (λ p f w. ((f.0, f.1.0), refl, w)) words name command None (
    λ e. absurd (none-some command e)))))))))

-- the words of a command on offsets are parsed as it
pub offset_of-words : (command : OffsetCommand) → OffsetFits command → command_of (offset_words command) ≡ Some (Kinds.Offset command)
unfolding command_of named_command bitmap_command_of frozen_command_of offset_command_of frozen_offsets_command_of
offset_of-words (New slot first) fits = rw (slot_of-decimal slot fits.0, number_of-decimal first fits.1) refl
offset_of-words (Push slot length) fits = rw (slot_of-decimal slot fits.0, number_of-decimal length fits.1) refl
offset_of-words (Pop slot) fits = rw (slot_of-decimal slot fits) refl
offset_of-words (Extend slot lengths) fits = rw (slot_of-decimal slot fits.0, number_list-text lengths fits.1) refl
offset_of-words (Offsets slot) fits = rw (slot_of-decimal slot fits) refl
offset_of-words (Freeze slot) fits = rw (slot_of-decimal slot fits) refl
offset_of-words (Slice slot first count) fits = rw (slot_of-decimal slot fits.0, number_of-decimal first fits.1, number_of-decimal count fits.2) refl
offset_of-words (Zip offsets validity) fits = rw (slot_of-decimal offsets fits.0, slot_of-decimal validity fits.1) refl
