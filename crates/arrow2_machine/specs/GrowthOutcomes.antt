-- The effect of each command by which a bitmap grows on the machine of lists.
use Rattle.std.specs.Prelude.{ℕ, ◌+◌, ◌-◌, ◌^◌, nat_lt, Bool, List, ◌++◌, length, replicate, Result, Ok, Err, if◌then◌else◌}
use Rattle.arrow2_script.specs.declared.growth_command.GrowthCommand.{GrowthCommand}
use Rattle.arrow2_script.specs.declared.growth_command.GrowthCommand.TheVariants.{Fill, Append}
use Rattle.arrow2_machine.specs.declared.line_error.LineError.{LineError}
use Rattle.arrow2_machine.specs.declared.line_error.LineError.TheVariants.{Overflow}
use Rattle.arrow2_machine.specs.SlotValues.{SlotValue, Growing, ◌>>=◌, at, growing_list, frozen_list, with_slot}

-- the items of a slot after a bit is appended to it n times: a length of 2 ^ 64 or more is too great
abbrev pub after_fill : SlotValue → ℕ → Bool → Result SlotValue LineError
after_fill held n bit = do
  items ← growing_list held
  if nat_lt (2 ^ 64 - 1) (length items + n) then Err Overflow else Ok (Growing (items ++ replicate n bit))

-- a slot after other items are appended to it
abbrev pub after_append : SlotValue → List Bool → Result SlotValue LineError
after_append held others = do
  items ← growing_list held
  if nat_lt (2 ^ 64 - 1) (length items + length others) then Err Overflow else Ok (Growing (items ++ others))

-- the slots after a command by which a bitmap grows, and its reply
unfoldable pub growth_outcome : List SlotValue → GrowthCommand → Result (List SlotValue × List ℕ) LineError
growth_outcome slots (Fill s n bit) = with_slot slots s (after_fill (at slots s) n bit)
growth_outcome slots (Append d s) = do
  others ← frozen_list (at slots s)
  with_slot slots d (after_append (at slots d) others)
