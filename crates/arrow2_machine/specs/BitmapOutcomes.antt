-- The effect of each command on bitmaps on the machine of lists.
use Rattle.std.specs.Prelude.{ℕ, ◌+◌, ◌-◌, ◌^◌, ◌==◌, nat_lt, Bool, List, [], ◌∷◌, ◌++◌, length, slice_set, slice_get, take, Result, Ok, Err, if◌then◌else◌, decimal}
use Rattle.arrow2.specs.Lists.{part, falses}
use Rattle.arrow2_script.specs.Words.{bits_text}
use Rattle.arrow2_script.specs.declared.bitmap_command.BitmapCommand.{BitmapCommand}
use Rattle.arrow2_script.specs.declared.bitmap_command.BitmapCommand.TheVariants.{New, Push, Pop, Get, Freeze, Thaw, Slice, Count, Bits}
use Rattle.arrow2_machine.specs.declared.line_error.LineError.{LineError}
use Rattle.arrow2_machine.specs.declared.line_error.LineError.TheVariants.{Range, Overflow}
use Rattle.arrow2_machine.specs.SlotValues.{SlotValue, Frozen, Growing, ◌>>=◌, at, growing_list, frozen_list, list_of_items, with_slot, with_reply}
use Rattle.arrow2_machine.specs.Replies.{item_reply}

-- a slot after a bit is pushed to it: a length of 2 ^ 64 is too great
abbrev pub after_push : SlotValue → Bool → Result SlotValue LineError
after_push held bit = do
  items ← growing_list held
  if length items == 2 ^ 64 - 1 then Err Overflow else Ok (Growing (items ++ bit ∷ []))

-- the items of a slot after its last item is taken off, and the reply with that item
abbrev pub after_pop : SlotValue → Result (SlotValue × List ℕ) LineError
after_pop held = do
  items ← growing_list held
  Ok (Growing (take (length items - 1) items), item_reply (slice_get items (length items - 1)))

-- the reply with item i of a slot
abbrev pub reply_with_item : SlotValue → ℕ → Result (List ℕ) LineError
reply_with_item held i = do
  items ← list_of_items held
  Ok (item_reply (slice_get items i))

-- a slot after it is frozen
abbrev pub after_freeze : SlotValue → Result SlotValue LineError
after_freeze held = do
  items ← growing_list held
  Ok (Frozen items)

-- a slot after it is thawed
abbrev pub after_thaw : SlotValue → Result SlotValue LineError
after_thaw held = do
  items ← frozen_list held
  Ok (Growing items)

-- the n items of a list from item i on, where they are inside
abbrev pub part_inside : {X : Type 0} → List X → ℕ → ℕ → Result (List X) LineError
part_inside items i n = if nat_lt (length items) (i + n) then Err Range else Ok (part items i n)

-- a slot after it is cut to its n items from item i on
abbrev pub after_slice : SlotValue → ℕ → ℕ → Result SlotValue LineError
after_slice held i n = do
  items ← frozen_list held
  inside ← part_inside items i n
  Ok (Frozen inside)

-- the number of false items of a slot
abbrev pub false_count : SlotValue → Result ℕ LineError
false_count held = do
  items ← list_of_items held
  Ok (falses items)

-- the text of a slot's items
abbrev pub item_text : SlotValue → Result (List ℕ) LineError
item_text held = do
  items ← list_of_items held
  Ok (bits_text items)

-- the slots after a command on bitmaps, and its reply
unfoldable pub bitmap_outcome : List SlotValue → BitmapCommand → Result (List SlotValue × List ℕ) LineError
bitmap_outcome slots (New s bits) = with_slot slots s (Ok (Growing bits))
bitmap_outcome slots (Push s bit) = with_slot slots s (after_push (at slots s) bit)
bitmap_outcome slots (Pop s) = do
  after ← after_pop (at slots s)
  Ok (slice_set slots s after.0, after.1)
bitmap_outcome slots (Get s i) = with_reply slots (reply_with_item (at slots s) i)
bitmap_outcome slots (Freeze s) = with_slot slots s (after_freeze (at slots s))
bitmap_outcome slots (Thaw s) = with_slot slots s (after_thaw (at slots s))
bitmap_outcome slots (Slice s i n) = with_slot slots s (after_slice (at slots s) i n)
bitmap_outcome slots (Count s) = do
  number ← false_count (at slots s)
  Ok (slots, decimal number)
bitmap_outcome slots (Bits s) = with_reply slots (item_text (at slots s))
