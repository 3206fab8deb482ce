-- The effect of each command on values of any type on the machine of lists.
use Rattle.std.specs.Prelude.{ℕ, Bool, nat_eq, List, [], ◌∷◌, Result, Ok, Err}
use Rattle.std.specs.Bool.{beq}
use Rattle.std.specs.Cmp.Lexicographic.{pointwise}
use Rattle.arrow2_script.specs.Words.{bit_byte}
use Rattle.arrow2_script.specs.declared.value_command.ValueCommand.{ValueCommand}
use Rattle.arrow2_script.specs.declared.value_command.ValueCommand.TheVariants.{Copy, Compare}
use Rattle.arrow2_machine.specs.declared.line_error.LineError.{LineError}
use Rattle.arrow2_machine.specs.declared.line_error.LineError.TheVariants.{Kind}
use Rattle.arrow2_machine.specs.SlotValues.{SlotValue, Frozen, Growing, FrozenOffsets, GrowingOffsets, Array, ◌>>=◌, at, offset_list, with_slot}

-- the copy of a slot: the same, where it is frozen or a boolean array
abbrev pub after_copy : SlotValue → Result SlotValue LineError
after_copy (Frozen items) = Ok (Frozen items)
after_copy (FrozenOffsets o) = Ok (FrozenOffsets o)
after_copy (Array items) = Ok (Array items)
after_copy _ = Err Kind

-- whether two slots that hold values of one type hold the same list: boolean arrays are not compared
abbrev pub are_equal : SlotValue → SlotValue → Result Bool LineError
are_equal (Frozen a) (Frozen b) = Ok (pointwise beq a b)
are_equal (Growing a) (Growing b) = Ok (pointwise beq a b)
are_equal (FrozenOffsets a) (FrozenOffsets b) = Ok (pointwise nat_eq (offset_list a) (offset_list b))
are_equal (GrowingOffsets a) (GrowingOffsets b) = Ok (pointwise nat_eq (offset_list a) (offset_list b))
are_equal _ _ = Err Kind

-- the slots after a command on values, and its reply
unfoldable pub value_outcome : List SlotValue → ValueCommand → Result (List SlotValue × List ℕ) LineError
value_outcome slots (Copy s d) = with_slot slots d (after_copy (at slots s))
value_outcome slots (Compare a b) = do
  same ← are_equal (at slots a) (at slots b)
  Ok (slots, bit_byte same ∷ [])
