-- The contents of a slot of the machine.
use Rattle.std.specs.Prelude.{ℕ, Bool, List, Option, slice_index_or, slice_set, codes, Result, Ok, Err}
use Rattle.arrow2.specs.Offsets.{offsets_list}
use Rattle.arrow2_machine.specs.declared.line_error.LineError.{LineError}
use Rattle.arrow2_machine.specs.declared.line_error.LineError.TheVariants.{Kind}

-- offsets: the first one, and the lengths
pub record Offsets : Type 0 where
  pub start : ℕ
  pub lengths : List ℕ

-- the contents of a slot: nothing, a list of booleans or offsets, frozen or growing, or a boolean array: its items,
-- `None` where one is null
pub data SlotValue : Type 0 where
  Nothing : SlotValue
  Frozen : List Bool → SlotValue
  Growing : List Bool → SlotValue
  FrozenOffsets : Offsets → SlotValue
  GrowingOffsets : Offsets → SlotValue
  Array : List (Option Bool) → SlotValue

infixl 10 ◌>>=◌
-- the next result of a value, unless it is an error
abbrev pub ◌>>=◌ : {A B : Type 0} → Result A LineError → (A → Result B LineError) → Result B LineError
(Ok x) >>= f = f x
(Err e) >>= f = Err e

-- the contents of slot s
abbrev pub at : List SlotValue → ℕ → SlotValue
at slots s = slice_index_or slots s Nothing

-- the slots after slot s becomes the value of a result, and the reply `ok`
abbrev pub with_slot : List SlotValue → ℕ → Result SlotValue LineError → Result (List SlotValue × List ℕ) LineError
with_slot slots s result = do
  held ← result
  Ok (slice_set slots s held, codes "ok")

-- the same slots, and a reply about them
abbrev pub with_reply : List SlotValue → Result (List ℕ) LineError → Result (List SlotValue × List ℕ) LineError
with_reply slots text = do
  said ← text
  Ok (slots, said)

-- a list of booleans that grows
abbrev pub growing_list : SlotValue → Result (List Bool) LineError
growing_list (Growing items) = Ok items
growing_list _ = Err Kind

-- a frozen list of booleans
abbrev pub frozen_list : SlotValue → Result (List Bool) LineError
frozen_list (Frozen items) = Ok items
frozen_list _ = Err Kind

-- a list of booleans, frozen or not
abbrev pub list_of_items : SlotValue → Result (List Bool) LineError
list_of_items (Frozen items) = Ok items
list_of_items (Growing items) = Ok items
list_of_items _ = Err Kind

-- offsets that grow
abbrev pub growing_offsets : SlotValue → Result Offsets LineError
growing_offsets (GrowingOffsets o) = Ok o
growing_offsets _ = Err Kind

-- frozen offsets
abbrev pub frozen_offsets : SlotValue → Result Offsets LineError
frozen_offsets (FrozenOffsets o) = Ok o
frozen_offsets _ = Err Kind

-- offsets, frozen or not
abbrev pub any_offsets : SlotValue → Result Offsets LineError
any_offsets (FrozenOffsets o) = Ok o
any_offsets (GrowingOffsets o) = Ok o
any_offsets _ = Err Kind

-- the list of offsets
abbrev pub offset_list : Offsets → List ℕ
offset_list o = offsets_list o.start o.lengths

-- the items of a boolean array
abbrev pub array : SlotValue → Result (List (Option Bool)) LineError
array (Array items) = Ok items
array _ = Err Kind
