-- The contents of a slot of the program, as the machine of lists sees them.
use Rattle.std.specs.Prelude.{ℤ, List}
use Rattle.arrow2.specs.Lists.{buffer_items, items_of}
use Rattle.arrow2.specs.Items.{boolean_items}
use Rattle.arrow2.specs.Offsets.{start_of, lengths_of}
use Rattle.arrow2_machine.specs.SlotValues.{SlotValue}
use Rattle.arrow2_machine.specs.SlotValues as machine
use Rattle.arrow2_machine.specs.declared.slot.Contents.{Contents}
use Rattle.arrow2_machine.specs.declared.slot.Contents.TheVariants.{Nothing, Frozen, Growing, FrozenOffsets, GrowingOffsets, Array}

-- a list of offsets, as its first offset and its lengths
abbrev pub offsets_in : List ℤ → machine.Offsets
offsets_in offsets = record { start = start_of offsets; lengths = lengths_of offsets }

-- a bitmap or a boolean array as its list, and offsets as their first offset and their lengths
abbrev pub held_in : Contents → SlotValue
held_in Nothing = machine.Nothing
held_in (Frozen bitmap) = machine.Frozen (items_of bitmap)
held_in (Growing bitmap) = machine.Growing bitmap.items
held_in (FrozenOffsets offsets) = machine.FrozenOffsets (offsets_in (buffer_items offsets))
held_in (GrowingOffsets offsets) = machine.GrowingOffsets (record { start = offsets.start; lengths = offsets.lengths })
held_in (Array array) = machine.Array (boolean_items array)
