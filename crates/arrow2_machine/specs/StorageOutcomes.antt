-- The effect of each command on stored bits on the machine of lists.
use Rattle.std.specs.Prelude.{ℕ, ◌+◌, ◌-◌, ◌*◌, ◌^◌, ◌||◌, nat_lt, Bool, List, length, map, slice_set, Result, Ok, Err, if◌then◌else◌, decimal}
use Rattle.arrow2.specs.Lists.{bits, part, words}
use Rattle.arrow2.specs.Runs.{runs}
use Rattle.arrow2_script.specs.Words.{width_bits}
use Rattle.arrow2_script.specs.declared.words.Width.{Width}
use Rattle.arrow2_script.specs.declared.storage_command.StorageCommand.{StorageCommand}
use Rattle.arrow2_script.specs.declared.storage_command.StorageCommand.TheVariants.{Raw, Set, Words, Runs}
use Rattle.arrow2_machine.specs.declared.line_error.LineError.{LineError}
use Rattle.arrow2_machine.specs.declared.line_error.LineError.TheVariants.{Range}
use Rattle.arrow2_machine.specs.SlotValues.{SlotValue, Frozen, Growing, ◌>>=◌, at, growing_list, frozen_list, with_slot, with_reply}
use Rattle.arrow2_machine.specs.Replies.{run_word, words_text}

-- a slot with the n bits of some bytes from bit o on: they are inside, and o + n is below 2 ^ 64
abbrev pub after_raw : List ℕ → ℕ → ℕ → Result SlotValue LineError
after_raw bytes o n = if nat_lt (8 * length bytes) (o + n) || nat_lt (2 ^ 64 - 1) (o + n) then Err Range else Ok (Frozen (part (bits bytes) o n))

-- a slot after its item i becomes a bit
abbrev pub after_set : SlotValue → ℕ → Bool → Result SlotValue LineError
after_set held i bit = do
  items ← growing_list held
  if nat_lt i (length items) then Ok (Growing (slice_set items i bit)) else Err Range

-- the text of a slot's words, the last one filled with false
abbrev pub word_text : SlotValue → Width → Result (List ℕ) LineError
word_text held width = do
  items ← frozen_list held
  Ok (words_text (map decimal (words (width_bits width) items)))

-- the text of the runs of a slot's true items, rising
abbrev pub run_text : SlotValue → Result (List ℕ) LineError
run_text held = do
  items ← frozen_list held
  Ok (words_text (map run_word (runs items)))

-- the slots after a command on stored bits, and its reply
unfoldable pub storage_outcome : List SlotValue → StorageCommand → Result (List SlotValue × List ℕ) LineError
storage_outcome slots (Raw s bytes o n) = with_slot slots s (after_raw bytes o n)
storage_outcome slots (Set s i bit) = with_slot slots s (after_set (at slots s) i bit)
storage_outcome slots (Words s width) = with_reply slots (word_text (at slots s) width)
storage_outcome slots (Runs s) = with_reply slots (run_text (at slots s))
