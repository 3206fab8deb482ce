use Rattle.std.proofs.Common.{map, Some}
use Rattle.arrow2_text.proofs.AppendedItems.{bytes-of_values}
use Rattle.arrow2_text.proofs.CollectedItems.{made-bytes, no-bitmap, none-null}
use Rattle.arrow2_text.proofs.utf8.GenericByteArray+Utf8Type+O.from_slice.Goals as goal

pub returns-clause-bitmap : goal.returns-clause-bitmap
returns-clause-bitmap g c =
    let values = c.args.values.now in
    no-bitmap c.from_items.result (map (λ value. Some value.now) values) (none-null (λ value. value.now) values) c.from_items.ensures.bitmap

pub returns-clause-bytes : goal.returns-clause-bytes
returns-clause-bytes g c = made-bytes c.from_items.result c.from_items.ensures.bytes (bytes-of_values c.args.values.now)

pub returns-clause-overflow : goal.returns-clause-overflow
returns-clause-overflow g c = rw (bytes-of_values c.args.values.now) at c.from_items.ensures.overflow
