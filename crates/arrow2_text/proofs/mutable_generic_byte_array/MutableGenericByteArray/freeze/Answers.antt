use Rattle.std.proofs.Common.{◌≤◌, length}
use Rattle.arrow2_model.specs.Lists.{buffer_items}
use Rattle.arrow2_offset.specs.Offsets.{last_of}
use Rattle.arrow2_text.specs.Binary.{binary_values}
use Rattle.arrow2_text.proofs.GrowingValues.{same-values}
use Rattle.arrow2_text.proofs.mutable_generic_byte_array.MutableGenericByteArray.freeze.Goals as goal

pub of_slots-requires-clause-fits : goal.of_slots-requires-clause-fits
of_slots-requires-clause-fits g c =
    let made = c.in_ok-slots.slots in
    let within : last_of (buffer_items made.offsets) ≤ length (buffer_items made.values) = rw (← c.values.ensures.value) c.values.ensures.inside in
    let each = same-values g.T.ByteArrayType.IsValue c.self.inside.slots.values (binary_values made) c.self.invariant.1 c.in_ok-slots.ensures.values in
    g.T.ByteArrayType.fits (buffer_items made.offsets) (buffer_items made.values) within each.each
