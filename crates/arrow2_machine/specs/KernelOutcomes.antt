-- The effect of each command that combines bitmaps on the machine of lists.
use Rattle.std.specs.Prelude.{ℕ, ◌==◌, ◌&&◌, Bool, List, [], ◌∷◌, length, Result, Ok, Err, if◌then◌else◌}
use Rattle.arrow2.specs.Tables.{each}
use Rattle.arrow2_script.specs.declared.kernel_command.KernelCommand.{KernelCommand}
use Rattle.arrow2_script.specs.declared.kernel_command.KernelCommand.TheVariants.{Make, AssignUnary, AssignBinary}
use Rattle.arrow2_script.specs.declared.kernel_command.Kernel.{Kernel}
use Rattle.arrow2_script.specs.declared.kernel_command.Kernel.TheVariants as kernel
use Rattle.arrow2_machine.specs.declared.line_error.LineError.{LineError}
use Rattle.arrow2_machine.specs.declared.line_error.LineError.TheVariants.{Length}
use Rattle.arrow2_machine.specs.SlotValues.{SlotValue, Frozen, Growing, ◌>>=◌, at, growing_list, frozen_list, with_slot}

-- the frozen lists of two slots, which must have equal lengths
abbrev pub two_lists : List SlotValue → ℕ → ℕ → Result (List Bool × List Bool) LineError
two_lists slots a b = do
  x ← frozen_list (at slots a)
  y ← frozen_list (at slots b)
  if length x == length y then Ok (x, y) else Err Length

-- those of three slots
abbrev pub three_lists : List SlotValue → ℕ → ℕ → ℕ → Result (List Bool × List Bool × List Bool) LineError
three_lists slots a b c = do
  x ← frozen_list (at slots a)
  y ← frozen_list (at slots b)
  z ← frozen_list (at slots c)
  if length x == length y && length x == length z then Ok (x, y, z) else Err Length

-- those of four slots
abbrev pub four_lists : List SlotValue → ℕ → ℕ → ℕ → ℕ → Result (List Bool × List Bool × List Bool × List Bool) LineError
four_lists slots a b c e = do
  x ← frozen_list (at slots a)
  y ← frozen_list (at slots b)
  z ← frozen_list (at slots c)
  v ← frozen_list (at slots e)
  if length x == length y && length x == length z && length x == length v then Ok (x, y, z, v) else Err Length

-- the outputs of a table for the items of one slot, and for those of two
abbrev pub table_of_one : ℕ → List SlotValue → ℕ → Result (List Bool) LineError
table_of_one t slots a = do
  items ← frozen_list (at slots a)
  Ok (each t (items ∷ []))

abbrev pub table_of_two : ℕ → List SlotValue → ℕ → ℕ → Result (List Bool) LineError
table_of_two t slots a b = do
  lists ← two_lists slots a b
  Ok (each t (lists.0 ∷ lists.1 ∷ []))

-- the list that an operator or a table makes; the operators are tables too: `and` is the table whose only set bit is
-- that of two true inputs
unfoldable pub kernel_items : List SlotValue → Kernel → Result (List Bool) LineError
kernel_items slots (kernel.And a b) = table_of_two 8 slots a b
kernel_items slots (kernel.Or a b) = table_of_two 14 slots a b
kernel_items slots (kernel.Xor a b) = table_of_two 6 slots a b
kernel_items slots (kernel.Not a) = table_of_one 1 slots a
kernel_items slots (kernel.Unary t a) = table_of_one t slots a
kernel_items slots (kernel.Binary t a b) = table_of_two t slots a b
kernel_items slots (kernel.Ternary t a b c) = do
  lists ← three_lists slots a b c
  Ok (each t (lists.0 ∷ lists.1 ∷ lists.2 ∷ []))
kernel_items slots (kernel.Quaternary t a b c e) = do
  lists ← four_lists slots a b c e
  Ok (each t (lists.0 ∷ lists.1 ∷ lists.2 ∷ lists.3 ∷ []))

-- a slot after its items become the outputs of a table for them
abbrev pub after_assign_unary : SlotValue → ℕ → Result SlotValue LineError
after_assign_unary held t = do
  items ← growing_list held
  Ok (Growing (each t (items ∷ [])))

-- a slot after its items become the outputs of a table for them and other items
abbrev pub after_assign_binary : SlotValue → ℕ → List Bool → Result SlotValue LineError
after_assign_binary held t others = do
  items ← growing_list held
  if length items == length others then Ok (Growing (each t (items ∷ others ∷ []))) else Err Length

-- the slots after a command that combines bitmaps, and its reply
unfoldable pub kernel_outcome : List SlotValue → KernelCommand → Result (List SlotValue × List ℕ) LineError
kernel_outcome slots (Make d kernel) = do
  items ← kernel_items slots kernel
  with_slot slots d (Ok (Frozen items))
kernel_outcome slots (AssignUnary s t width) = with_slot slots s (after_assign_unary (at slots s) t)
kernel_outcome slots (AssignBinary s t width a) = do
  others ← frozen_list (at slots a)
  with_slot slots s (after_assign_binary (at slots s) t others)
