-- Words spell one command on bitmaps at most, and each is spelled in one way.
use Rattle.std.proofs.Common.{◌≡◌, refl, ℕ, List, ◌∷◌, true, codes, Some, None}
use Rattle.std.specs.List.{list_all}
use Rattle.std.proofs.lemmas.Option.{none-some}
use Rattle.arrow2_script.specs.BitmapCommands.{bitmap_command_of, frozen_command_of, bitmap_words, BitmapFits}
use Rattle.arrow2_script.specs.Commands.{named_command, command_of}
use Rattle.arrow2_script.specs.declared.bitmap_command.BitmapCommand.{BitmapCommand}
use Rattle.arrow2_script.specs.declared.bitmap_command.BitmapCommand.TheVariants.{New, Push, Pop, Get, Freeze, Thaw, Slice, Count, Bits}
use Rattle.arrow2_script.specs.declared.command.Command.TheVariants as Kinds
use Rattle.arrow2_script.proofs.KindLemmas.{bit_texts, bits, numbers, slots, more, no_more, at_row, Parses}
use Rattle.arrow2_script.proofs.SpellingLemmas.{is_word}
use Rattle.arrow2_script.proofs.WordLemmas.{bit_of-byte, bits_of-text, number_of-decimal, slot_of-decimal}

-- words that are parsed as a command on bitmaps are its words
pub bitmap_parses : (name : List ℕ) (words : List (List ℕ)) (command : BitmapCommand) → bitmap_command_of name words ≡ Some command → Parses BitmapFits bitmap_words name words command
unfolding bitmap_command_of frozen_command_of is_word
bitmap_parses name words command =
    let parses = Parses BitmapFits bitmap_words in
    at_row parses (codes "new") refl (more slots (more bit_texts no_more)) (λ p. New p.0 p.1.0) (λ p f w. (f.0, refl, w)) words name command _ (
    at_row parses (codes "push") refl (more slots (more bits no_more)) (λ p. Push p.0 p.1.0) (λ p f w. (f.0, refl, w)) words name command _ (
    at_row parses (codes "pop") refl (more slots no_more) (λ p. Pop p.0) (λ p f w. (f.0, refl, w)) words name command _ (
    at_row parses (codes "freeze") refl (more slots no_more) (λ p. Freeze p.0) (λ p f w. (f.0, refl, w)) words name command _ (
    at_row parses (codes "get") refl (more slots (more numbers no_more)) (λ p. Get p.0 p.1.0) (λ p f w. ((f.0, f.1.0), refl, w)) words name command _ (
    at_row parses (codes "thaw") refl (more slots no_more) (λ p. Thaw p.0) (λ p f w. (f.0, refl, w)) words name command _ (
    at_row parses (codes "slice") refl (more slots (more numbers (more numbers no_more))) (λ p. Slice p.0 p.1.0 p.1.1.0) (λ p f w. ((f.0, f.1.0, f.1.1.0), refl, w)) words name command _ (
    at_row parses (codes "count") refl (more slots no_more) (λ p. Count p.0) (λ p f w. (f.0, refl, w)) words name command _ (
    at_row parses (codes "bits") refl (more slots no_more) (λ p. Bits p.0) (λ p f w. (f.0, refl, w)) words name command None (
    λ e. absurd (none-some command e))))))))))

-- the words of a command on bitmaps are parsed as it
pub bitmap_of-words : (command : BitmapCommand) → BitmapFits command → command_of (bitmap_words command) ≡ Some (Kinds.Bitmap command)
unfolding command_of named_command bitmap_command_of frozen_command_of
bitmap_of-words (New slot bits) fits = rw (slot_of-decimal slot fits, bits_of-text bits) refl
bitmap_of-words (Push slot bit) fits = rw (slot_of-decimal slot fits, bit_of-byte bit) refl
bitmap_of-words (Pop slot) fits = rw (slot_of-decimal slot fits) refl
bitmap_of-words (Thaw slot) fits = rw (slot_of-decimal slot fits) refl
bitmap_of-words (Get slot index) fits = rw (slot_of-decimal slot fits.0, number_of-decimal index fits.1) refl
bitmap_of-words (Freeze slot) fits = rw (slot_of-decimal slot fits) refl
bitmap_of-words (Slice slot offset length) fits = rw (slot_of-decimal slot fits.0, number_of-decimal offset fits.1, number_of-decimal length fits.2) refl
bitmap_of-words (Count slot) fits = rw (slot_of-decimal slot fits) refl
bitmap_of-words (Bits slot) fits = rw (slot_of-decimal slot fits) refl
