use Rattle.std.proofs.Common.{map, take, All, IsUtf8}
use Rattle.arrow2_utf8.specs.Texts.{slot_values}
use Rattle.arrow2_utf8.proofs.specification.first_broken_slot.Given as goal

abbrev pub invariant-loop-slot : goal.invariant-loop-slot
invariant-loop-slot g l = All IsUtf8 (take l.slot (slot_values (map g.O.Number.value l.offsets) l.values))
