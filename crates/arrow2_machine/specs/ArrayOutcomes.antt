-- The effect of each command on boolean arrays on the machine of lists.
use Rattle.std.specs.Prelude.{ℕ, ◌==◌, Bool, List, length, map, Option, Some, None, Result, Ok, Err, if◌then◌else◌, decimal}
use Rattle.arrow2.specs.Items.{nulls}
use Rattle.arrow2.specs.Kleene.{kleene_and, kleene_or, by_items}
use Rattle.arrow2.specs.Zipped.{zipped}
use Rattle.arrow2_script.specs.declared.array_command.ArrayCommand.{ArrayCommand}
use Rattle.arrow2_script.specs.declared.array_command.ArrayCommand.TheVariants as command
use Rattle.arrow2_machine.specs.declared.line_error.LineError.{LineError}
use Rattle.arrow2_machine.specs.declared.line_error.LineError.TheVariants.{Length}
use Rattle.arrow2_machine.specs.SlotValues.{SlotValue, Array, ◌>>=◌, at, frozen_list, array, with_slot, with_reply}
use Rattle.arrow2_machine.specs.BitmapOutcomes.{part_inside}
use Rattle.arrow2_machine.specs.KernelOutcomes.{two_lists}
use Rattle.arrow2_machine.specs.Replies.{array_items_text}

-- a boolean array: its values are the items of one slot, and it is null where the items of another slot are false;
-- without another slot no item is null
abbrev pub after_new_array : List SlotValue → ℕ → Option ℕ → Result SlotValue LineError
after_new_array slots values None = do
  items ← frozen_list (at slots values)
  Ok (Array (map (λ item. Some item) items))
after_new_array slots values (Some validity) = do
  lists ← two_lists slots values validity
  Ok (Array (zipped lists.0 lists.1))

-- the text of a slot's boolean array
abbrev pub array_reply : SlotValue → Result (List ℕ) LineError
array_reply held = do
  items ← array held
  Ok (array_items_text items)

-- the number of null items of a slot's boolean array
abbrev pub null_count : SlotValue → Result ℕ LineError
null_count held = do
  items ← array held
  Ok (nulls items)

-- a slot after its boolean array is cut to its n items from item i on
abbrev pub after_array_slice : SlotValue → ℕ → ℕ → Result SlotValue LineError
after_array_slice held i n = do
  items ← array held
  inside ← part_inside items i n
  Ok (Array inside)

-- the boolean arrays of two slots, which must have equal lengths
abbrev pub two_arrays : List SlotValue → ℕ → ℕ → Result (List (Option Bool) × List (Option Bool)) LineError
two_arrays slots a b = do
  x ← array (at slots a)
  y ← array (at slots b)
  if length x == length y then Ok (x, y) else Err Length

-- the array that an operator of Kleene's logic makes from the boolean arrays of two slots, item by item
abbrev pub after_kleene : (Option Bool → Option Bool → Option Bool) → List SlotValue → ℕ → ℕ → Result SlotValue LineError
after_kleene operator slots a b = do
  arrays ← two_arrays slots a b
  Ok (Array (by_items operator arrays.0 arrays.1))

-- the slots after a command on boolean arrays, and its reply
unfoldable pub array_outcome : List SlotValue → ArrayCommand → Result (List SlotValue × List ℕ) LineError
array_outcome slots (command.New d v m) = with_slot slots d (after_new_array slots v m)
array_outcome slots (command.List s) = with_reply slots (array_reply (at slots s))
array_outcome slots (command.Nulls s) = do
  number ← null_count (at slots s)
  Ok (slots, decimal number)
array_outcome slots (command.Slice s i n) = with_slot slots s (after_array_slice (at slots s) i n)
array_outcome slots (command.And d a b) = with_slot slots d (after_kleene kleene_and slots a b)
array_outcome slots (command.Or d a b) = with_slot slots d (after_kleene kleene_or slots a b)
