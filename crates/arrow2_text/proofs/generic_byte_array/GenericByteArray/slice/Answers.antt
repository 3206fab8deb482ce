use Rattle.std.proofs.Common.{◌≤◌, length, ap, ◌∙◌}
use Rattle.arrow2_model.specs.Lists.{buffer_items}
use Rattle.arrow2_offset.specs.Offsets.{last_of}
use Rattle.arrow2_datatypes.specs.Types.{physical}
use Rattle.arrow2_datatypes.specs.declared.physical_type.PhysicalType.{PhysicalType}
use Rattle.arrow2_text.specs.Binary.{BinaryParts, binary_values}
use Rattle.arrow2_text.proofs.GrowingValues.{part-values}
use Rattle.arrow2_text.proofs.generic_byte_array.GenericByteArray.slice.Goals as goal

pub invariant_of-self : goal.invariant_of-self
invariant_of-self g c =
    let layout_of : BinaryParts → PhysicalType = λ a. physical a.data_type in
    let old = c.self.inside.slots in
    let new = c.slice.new.self in
    let inside : last_of (buffer_items new.offsets) ≤ length (buffer_items new.values) = rw (← c.values.ensures.value) c.values.ensures.inside in
    let each = part-values g.T.ByteArrayType.IsValue (binary_values old) c.args.offset c.args.len (g.T.ByteArrayType.each _ _ c.self.invariant.1) in (
      ap layout_of c.slice.ensures.storage ∙ c.self.invariant.0,
      g.T.ByteArrayType.fits (buffer_items new.offsets) (buffer_items new.values) inside (rw c.slice.ensures.values each.each),
    )
