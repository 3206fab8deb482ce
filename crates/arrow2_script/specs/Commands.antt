-- The commands of a script, by group, and how each is spelled.
use Rattle.std.specs.Prelude.{◌≡◌, ℕ, List, [], ◌∷◌, Option, None, option_map}
use Rattle.std.specs.Option.{option_or}
use Rattle.std.specs.List.{join_with_byte}
use Rattle.arrow2_script.specs.Lines.{words_of}
unfoldable pub use Rattle.arrow2_script.specs.BitmapCommands.{bitmap_command_of, frozen_command_of, bitmap_words, BitmapFits}
unfoldable pub use Rattle.arrow2_script.specs.OffsetCommands.{offset_command_of, frozen_offsets_command_of, offset_words, OffsetFits}
unfoldable pub use Rattle.arrow2_script.specs.ValueCommands.{value_command_of, value_words, ValueFits}
unfoldable pub use Rattle.arrow2_script.specs.StorageCommands.{storage_command_of, storage_words, StorageFits}
unfoldable pub use Rattle.arrow2_script.specs.KernelCommands.{kernel_command_of, kernel_words, KernelFits}
unfoldable pub use Rattle.arrow2_script.specs.GrowthCommands.{growth_command_of, growth_words, GrowthFits}
unfoldable pub use Rattle.arrow2_script.specs.ArrayCommands.{array_command_of, array_words, ArrayFits}
use Rattle.arrow2_script.specs.declared.command.Command.{Command}
use Rattle.arrow2_script.specs.declared.command.Command.TheVariants.{Bitmap, Offset, Value, Storage, Kernel, Growth, Array}

-- the command that the words after a name spell, of whichever group
unfoldable pub named_command : List ℕ → List (List ℕ) → Option Command
named_command name words =
    option_or (option_map Bitmap (bitmap_command_of name words)) (
    option_or (option_map Offset (offset_command_of name words)) (
    option_or (option_map Value (value_command_of name words)) (
    option_or (option_map Storage (storage_command_of name words)) (
    option_or (option_map Kernel (kernel_command_of name words)) (
    option_or (option_map Growth (growth_command_of name words)) (
    option_map Array (array_command_of name words)))))))

-- the command that words spell
unfoldable pub command_of : List (List ℕ) → Option Command
command_of [] = None
command_of (name ∷ words) = named_command name words

-- the command that a line spells, if it spells one
unfoldable pub command_in : List ℕ → Option Command
command_in line = command_of (words_of line)

-- the words of a command
abbrev pub command_words : Command → List (List ℕ)
command_words (Bitmap command) = bitmap_words command
command_words (Offset command) = offset_words command
command_words (Value command) = value_words command
command_words (Storage command) = storage_words command
command_words (Kernel command) = kernel_words command
command_words (Growth command) = growth_words command
command_words (Array command) = array_words command

-- slots are below 16, and numbers fit 64 bits
abbrev pub CommandFits : Command → Type 0
CommandFits (Bitmap command) = BitmapFits command
CommandFits (Offset command) = OffsetFits command
CommandFits (Value command) = ValueFits command
CommandFits (Storage command) = StorageFits command
CommandFits (Kernel command) = KernelFits command
CommandFits (Growth command) = GrowthFits command
CommandFits (Array command) = ArrayFits command

-- the line is the command: its words, joined by one byte 32
abbrev pub IsSpelling : List ℕ → Command → Type 0
IsSpelling line command = CommandFits command × (line ≡ join_with_byte 32 (command_words command))
