use Rattle.arrow2_text.proofs.AppendedItems.{bytes-of_values}
use Rattle.arrow2_text.proofs.mutable_binary.MutableGenericByteArray+BinaryType+O.extend_from_slice.Goals as goal

pub returns : goal.returns
returns g c = rw (← bytes-of_values c.args.values.now) c.extend_from_items.ensures
