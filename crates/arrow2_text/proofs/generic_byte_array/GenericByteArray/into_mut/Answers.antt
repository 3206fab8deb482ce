use Rattle.arrow2_text.specs.Binary.{binary_values}
use Rattle.arrow2_text.proofs.GrowingValues.{same-values}
use Rattle.arrow2_text.proofs.generic_byte_array.GenericByteArray.into_mut.Goals as goal

pub of_slots-requires-in-Right-clause-values : goal.of_slots-requires-in-Right-clause-values
of_slots-requires-in-Right-clause-values g c =
    let stated = rw c.in-Right.is at c.in_ok-slots.ensures.ok in
    same-values g.T.ByteArrayType.IsValue (binary_values c.self.inside.slots) c.in-Right.slots.values (record { each = g.T.ByteArrayType.each _ _ c.self.invariant.1 }) stated.0
