use Rattle.std.proofs.Common.{◌∙◌, rules}
use Rattle.arrow2.specs.Lists.{buffer_items}
use Rattle.arrow2.specs.Offsets.{offsets_of, offsets_list, start_of, lengths_of}
use Rattle.arrow2_machine.proofs.OffsetLemmas.{offsets_said}
use Rattle.arrow2_machine.proofs.slot.Slot.write_offsets.Goals as goal

pub returns-in_ok-write_offsets-in-FrozenOffsets : goal.returns-in_ok-write_offsets-in-FrozenOffsets
returns-in_ok-write_offsets-in-FrozenOffsets c =
    let s = c.as_slice in
    let xs = buffer_items c.in-FrozenOffsets.offsets in
    let words = offsets_said s.result.now (offsets_list (start_of xs) (lengths_of xs)) (s.ensures.offsets ∙ s.ensures.by_lengths) in
    record { ok = rw (← c.self.view_is, c.in-FrozenOffsets.is, ← words) c.in_ok-write_offsets-in-FrozenOffsets.ensures; rejected = search rules; err = search rules }

pub returns-in_ok-write_offsets-in-GrowingOffsets : goal.returns-in_ok-write_offsets-in-GrowingOffsets
returns-in_ok-write_offsets-in-GrowingOffsets c =
    let s = c.as_slice-in-GrowingOffsets in
    let words = offsets_said s.result.now (offsets_of c.in-GrowingOffsets.offsets) s.ensures.offsets in
    record { ok = rw (← c.self.view_is, c.in-GrowingOffsets.is, ← words) c.in_ok-write_offsets-in-GrowingOffsets.ensures; rejected = search rules; err = search rules }
