-- The effect of each command on offsets on the machine of lists.
use Rattle.std.specs.Prelude.{ℕ, ◌+◌, ◌-◌, ◌==◌, ◌||◌, nat_lt, List, [], ◌∷◌, ◌++◌, length, map, sum, slice_set, take, codes, Result, Ok, Err, if◌then◌else◌, decimal}
use Rattle.arrow2.specs.Zipped.{zipped}
use Rattle.arrow2.specs.Lists.{part}
use Rattle.arrow2.specs.Offsets.{offset_at, last_offset}
use Rattle.arrow2_script.specs.declared.offset_command.OffsetCommand.{OffsetCommand}
use Rattle.arrow2_script.specs.declared.offset_command.OffsetCommand.TheVariants as command
use Rattle.arrow2_machine.specs.declared.line_error.LineError.{LineError}
use Rattle.arrow2_machine.specs.declared.line_error.LineError.TheVariants.{Range, Length, Overflow}
use Rattle.arrow2_machine.specs.SlotValues.{Offsets, SlotValue, FrozenOffsets, GrowingOffsets, ◌>>=◌, at, frozen_list, growing_offsets, frozen_offsets, any_offsets, offset_list, with_slot, with_reply}
use Rattle.arrow2_machine.specs.Replies.{words_text, slot_word}

-- the greatest offset
abbrev pub greatest : ℕ
greatest = 2147483647

-- a slot with growing offsets that are one offset only
abbrev pub after_new_offsets : ℕ → Result SlotValue LineError
after_new_offsets first = if nat_lt greatest first then Err Range else Ok (GrowingOffsets (record { start = first; lengths = [] }))

-- a slot after lengths are appended to it
abbrev pub after_lengths : SlotValue → List ℕ → Result SlotValue LineError
after_lengths held lengths = do
  o ← growing_offsets held
  if nat_lt greatest (last_offset o.start o.lengths + sum lengths) then Err Overflow else Ok (GrowingOffsets (record o { lengths = o.lengths ++ lengths }))

-- the reply with the offset which is taken off: the last one, unless it is the only one
abbrev pub last_offset_reply : Offsets → List ℕ
last_offset_reply o = if length o.lengths == 0 then codes "none" else decimal (last_offset o.start o.lengths)

-- the offsets of a slot after its last offset is taken off, and the reply with that offset
abbrev pub after_offset_pop : SlotValue → Result (SlotValue × List ℕ) LineError
after_offset_pop held = do
  o ← growing_offsets held
  Ok (GrowingOffsets (record o { lengths = take (length o.lengths - 1) o.lengths }), last_offset_reply o)

-- the text of a slot's offsets
abbrev pub offset_text : SlotValue → Result (List ℕ) LineError
offset_text held = do
  o ← any_offsets held
  Ok (words_text (map decimal (offset_list o)))

-- a slot after its offsets are frozen
abbrev pub after_offsets_freeze : SlotValue → Result SlotValue LineError
after_offsets_freeze held = do
  o ← growing_offsets held
  Ok (FrozenOffsets o)

-- n offsets from offset i on, where they are inside: there is one offset more than lengths
abbrev pub offsets_inside : Offsets → ℕ → ℕ → Result Offsets LineError
offsets_inside o i n = if n == 0 || nat_lt (length o.lengths + 1) (i + n) then Err Range else Ok (record { start = offset_at o.start o.lengths i; lengths = part o.lengths i (n - 1) })

-- a slot after it is cut to its n offsets from offset i on
abbrev pub after_offsets_slice : SlotValue → ℕ → ℕ → Result SlotValue LineError
after_offsets_slice held i n = do
  o ← frozen_offsets held
  inside ← offsets_inside o i n
  Ok (FrozenOffsets inside)

-- the text of a slot's lengths, with `null` where another slot's items are false
abbrev pub zip_text : SlotValue → SlotValue → Result (List ℕ) LineError
zip_text offsets validity = do
  o ← frozen_offsets offsets
  items ← frozen_list validity
  if length o.lengths == length items then Ok (words_text (map slot_word (zipped o.lengths items))) else Err Length

-- the slots after a command on offsets, and its reply
unfoldable pub offset_outcome : List SlotValue → OffsetCommand → Result (List SlotValue × List ℕ) LineError
offset_outcome slots (command.New s first) = with_slot slots s (after_new_offsets first)
offset_outcome slots (command.Push s n) = with_slot slots s (after_lengths (at slots s) (n ∷ []))
offset_outcome slots (command.Pop s) = do
  after ← after_offset_pop (at slots s)
  Ok (slice_set slots s after.0, after.1)
offset_outcome slots (command.Extend s lengths) = with_slot slots s (after_lengths (at slots s) lengths)
offset_outcome slots (command.Offsets s) = with_reply slots (offset_text (at slots s))
offset_outcome slots (command.Freeze s) = with_slot slots s (after_offsets_freeze (at slots s))
offset_outcome slots (command.Slice s i n) = with_slot slots s (after_offsets_slice (at slots s) i n)
offset_outcome slots (command.Zip s v) = with_reply slots (zip_text (at slots s) (at slots v))
