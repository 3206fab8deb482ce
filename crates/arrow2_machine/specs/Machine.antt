-- The machine of lists that runs a script.
use Rattle.std.specs.Prelude.{ℕ, List, [], ◌∷◌, ◌++◌, replicate, Option, Some, None, Result, Ok, Err}
use Rattle.arrow2_script.specs.Lines.{lines_of, with_newline}
use Rattle.arrow2_script.specs.Commands.{command_in}
use Rattle.arrow2_script.specs.declared.command.Command.{Command}
use Rattle.arrow2_script.specs.declared.command.Command.TheVariants.{Bitmap, Offset, Value, Storage, Kernel, Growth, Array}
use Rattle.arrow2_machine.specs.declared.line_error.LineError.{LineError}
use Rattle.arrow2_machine.specs.declared.line_error.LineError.TheVariants.{Syntax}
use Rattle.arrow2_machine.specs.SlotValues.{SlotValue, Nothing}
use Rattle.arrow2_machine.specs.Replies.{rejected_text}
use Rattle.arrow2_machine.specs.BitmapOutcomes.{bitmap_outcome}
use Rattle.arrow2_machine.specs.OffsetOutcomes.{offset_outcome}
use Rattle.arrow2_machine.specs.ValueOutcomes.{value_outcome}
use Rattle.arrow2_machine.specs.StorageOutcomes.{storage_outcome}
use Rattle.arrow2_machine.specs.KernelOutcomes.{kernel_outcome}
use Rattle.arrow2_machine.specs.GrowthOutcomes.{growth_outcome}
use Rattle.arrow2_machine.specs.ArrayOutcomes.{array_outcome}

-- the slots after a command, and its reply, by the command's group
unfoldable pub outcome : List SlotValue → Command → Result (List SlotValue × List ℕ) LineError
outcome slots (Bitmap command) = bitmap_outcome slots command
outcome slots (Offset command) = offset_outcome slots command
outcome slots (Value command) = value_outcome slots command
outcome slots (Storage command) = storage_outcome slots command
outcome slots (Kernel command) = kernel_outcome slots command
outcome slots (Growth command) = growth_outcome slots command
outcome slots (Array command) = array_outcome slots command

-- the slots and the reply of a line; a line that is rejected changes no slot
abbrev pub slots_and_reply : List SlotValue → Result (List SlotValue × List ℕ) LineError → List SlotValue × List ℕ
slots_and_reply slots (Ok after) = after
slots_and_reply slots (Err e) = (slots, rejected_text e)

-- the result of a line: one that is no command is rejected
abbrev pub outcome_of : List SlotValue → Option Command → Result (List SlotValue × List ℕ) LineError
outcome_of slots None = Err Syntax
outcome_of slots (Some command) = outcome slots command

-- one step of the machine: the slots after a line, and its reply
unfoldable pub step : List SlotValue → List ℕ → List SlotValue × List ℕ
step slots line = slots_and_reply slots (outcome_of slots (command_in line))

-- the replies to lines, each followed by byte 10
unfoldable pub replies : List SlotValue → List (List ℕ) → List ℕ
replies slots [] = []
replies slots (line ∷ lines) = with_newline (step slots line).1 ++ replies (step slots line).0 lines

-- the output of a script: the replies to its lines, beginning with sixteen empty slots
unfoldable pub text : List ℕ → List ℕ
text script = replies (replicate 16 Nothing) (lines_of script)
