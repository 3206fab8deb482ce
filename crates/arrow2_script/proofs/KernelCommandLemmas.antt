-- Words spell one command that combines bitmaps at most, and each is spelled in one way.
use Rattle.std.proofs.Common.{◌≡◌, refl, ℕ, List, ◌∷◌, true, arith, codes, Some, None}
use Rattle.std.specs.List.{list_all}
use Rattle.std.proofs.lemmas.Option.{none-some}
use Rattle.arrow2_script.specs.KernelCommands.{kernel_command_of, operator_command_of, table_command_of, kernel_words, KernelFits}
use Rattle.arrow2_script.specs.Commands.{bitmap_command_of, frozen_command_of, offset_command_of, frozen_offsets_command_of, value_command_of, storage_command_of, named_command, command_of}
use Rattle.arrow2_script.specs.declared.kernel_command.KernelCommand.{KernelCommand}
use Rattle.arrow2_script.specs.declared.kernel_command.KernelCommand.TheVariants.{Make, AssignUnary, AssignBinary}
use Rattle.arrow2_script.specs.declared.kernel_command.Kernel.TheVariants.{And, Or, Xor, Not, Unary, Binary, Ternary, Quaternary}
use Rattle.arrow2_script.specs.declared.command.Command.TheVariants as Kinds
use Rattle.arrow2_script.proofs.KindLemmas.{slots, tables, widths, more, no_more, at_row, Parses}
use Rattle.arrow2_script.proofs.SpellingLemmas.{is_word}
use Rattle.arrow2_script.proofs.WordLemmas.{below_of-decimal, slot_of-decimal, width_of-word}

-- words that are parsed as a command that combines bitmaps are its words
pub kernel_parses : (name : List ℕ) (words : List (List ℕ)) (command : KernelCommand) → kernel_command_of name words ≡ Some command → Parses KernelFits kernel_words name words command
unfolding kernel_command_of operator_command_of table_command_of is_word
kernel_parses name words command =
    let parses = Parses KernelFits kernel_words in
    at_row parses (codes "inplace1") refl (more slots (more (tables 4 (omega arith)) (more widths no_more))) (λ p. AssignUnary p.0 p.1.0 p.1.1.0) (λ p f w. ((f.0, f.1.0), refl, w)) words name command _ (
    at_row parses (codes "inplace2") refl (more slots (more (tables 16 (omega arith)) (more widths (more slots no_more)))) (λ p. AssignBinary p.0 p.1.0 p.1.1.0 p.1.1.1.0) (λ p f w. ((f.0, f.1.0, f.1.1.1.0), refl, w)) words name command _ (
    at_row parses (codes "and") refl (more slots (more slots (more slots no_more))) (λ p. Make p.0 (And p.1.0 p.1.1.0)) (λ p f w. ((f.0, (f.1.0, f.1.1.0)), refl, w)) words name command _ (
    at_row parses (codes "or") refl (more slots (more slots (more slots no_more))) (λ p. Make p.0 (Or p.1.0 p.1.1.0)) (λ p f w. ((f.0, (f.1.0, f.1.1.0)), refl, w)) words name command _ (
    at_row parses (codes "xor") refl (more slots (more slots (more slots no_more))) (λ p. Make p.0 (Xor p.1.0 p.1.1.0)) (λ p f w. ((f.0, (f.1.0, f.1.1.0)), refl, w)) words name command _ (
    at_row parses (codes "not") refl (more slots (more slots no_more)) (λ p. Make p.0 (Not p.1.0)) (λ p f w. ((f.0, f.1.0), refl, w)) words name command _ (
    at_row parses (codes "table1") refl (more slots (more (tables 4 (omega arith)) (more slots no_more))) (λ p. Make p.0 (Unary p.1.0 p.1.1.0)) (λ p f w. ((f.0, (f.1.0, f.1.1.0)), refl, w)) words name command _ (
    at_row parses (codes "table2") refl (more slots (more (tables 16 (omega arith)) (more slots (more slots no_more)))) (λ p. Make p.0 (Binary p.1.0 p.1.1.0 p.1.1.1.0)) (λ p f w. ((f.0, (f.1.0, f.1.1.0, f.1.1.1.0)), refl, w)) words name command _ (
    at_row parses (codes "table3") refl (more slots (more (tables 256 (omega arith)) (more slots (more slots (more slots no_more))))) (λ p. Make p.0 (Ternary p.1.0 p.1.1.0 p.1.1.1.0 p.1.1.1.1.0)) (λ p f w. ((f.0, (f.1.0, f.1.1.0, f.1.1.1.0, f.1.1.1.1.0)), refl, w)) words name command _ (
    at_row parses (codes "table4") refl (more slots (more (tables 65536 (omega arith)) (more slots (more slots (more slots (more slots no_more)))))) (λ p. Make p.0 (Quaternary p.1.0 p.1.1.0 p.1.1.1.0 p.1.1.1.1.0 p.1.1.1.1.1.0)) (λ p f w. ((f.0, (f.1.0, f.1.1.0, f.1.1.1.0, f.1.1.1.1.0, f.1.1.1.1.1.0)), refl, w)) words name command None (
    λ e. absurd (none-some command e)))))))))))

-- the words of a command that combines bitmaps are parsed as it
pub kernel_of-words : (command : KernelCommand) → KernelFits command → command_of (kernel_words command) ≡ Some (Kinds.Kernel command)
unfolding command_of named_command bitmap_command_of frozen_command_of offset_command_of frozen_offsets_command_of value_command_of storage_command_of kernel_command_of operator_command_of table_command_of
kernel_of-words (Make to (And left right)) fits = rw (slot_of-decimal to fits.0, slot_of-decimal left fits.1.0, slot_of-decimal right fits.1.1) refl
kernel_of-words (Make to (Or left right)) fits = rw (slot_of-decimal to fits.0, slot_of-decimal left fits.1.0, slot_of-decimal right fits.1.1) refl
kernel_of-words (Make to (Xor left right)) fits = rw (slot_of-decimal to fits.0, slot_of-decimal left fits.1.0, slot_of-decimal right fits.1.1) refl
kernel_of-words (Make to (Not from)) fits = rw (slot_of-decimal to fits.0, slot_of-decimal from fits.1) refl
kernel_of-words (Make to (Unary table from)) fits = rw (slot_of-decimal to fits.0, below_of-decimal 4 table (omega arith) fits.1.0, slot_of-decimal from fits.1.1) refl
kernel_of-words (Make to (Binary table first second)) fits = rw (slot_of-decimal to fits.0, below_of-decimal 16 table (omega arith) fits.1.0, slot_of-decimal first fits.1.1, slot_of-decimal second fits.1.2) refl
kernel_of-words (Make to (Ternary table first second third)) fits = rw (slot_of-decimal to fits.0, below_of-decimal 256 table (omega arith) fits.1.0, slot_of-decimal first fits.1.1, slot_of-decimal second fits.1.2, slot_of-decimal third fits.1.3) refl
kernel_of-words (Make to (Quaternary table first second third fourth)) fits = rw (slot_of-decimal to fits.0, below_of-decimal 65536 table (omega arith) fits.1.0, slot_of-decimal first fits.1.1, slot_of-decimal second fits.1.2, slot_of-decimal third fits.1.3, slot_of-decimal fourth fits.1.4) refl
kernel_of-words (AssignUnary slot table width) fits = rw (slot_of-decimal slot fits.0, below_of-decimal 4 table (omega arith) fits.1, width_of-word width) refl
kernel_of-words (AssignBinary slot table width other) fits = rw (slot_of-decimal slot fits.0, below_of-decimal 16 table (omega arith) fits.1, width_of-word width, slot_of-decimal other fits.2) refl
