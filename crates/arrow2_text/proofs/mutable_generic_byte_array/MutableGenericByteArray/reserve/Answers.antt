use Rattle.std.proofs.Common.{◌≡◌, length, ap, sym, ◌∙◌}
use Rattle.arrow2_walks.specs.Zipped.{zipped}
use Rattle.arrow2_walks.proofs.Zipped.{length-zipped}
use Rattle.arrow2_text.proofs.mutable_generic_byte_array.MutableGenericByteArray.reserve.Goals as goal

pub returns : goal.returns
returns g c =
    let old = c.self.inside.slots in
    let new = c.reserve.new.self in
    let stated = c.reserve.ensures in
    let count : length (zipped old.values old.valid) ≡ length old.valid = length-zipped old.values old.valid stated.same ∙ sym stated.same in
    rw (← c.self.view_is) (record {
      items = ap (zipped new.values) stated.valid ∙ ap (λ l. zipped l old.valid) stated.values;
      bytes = stated.bytes;
      data_type = stated.data_type;
      ok = rw count stated.ok;
      ok_bytes = stated.ok_bytes;
      overflow = rw count stated.overflow;
      only = stated.only;
      succeeds = rw count stated.succeeds;
      capacity = stated.capacity;
      byte_capacity = stated.byte_capacity;
    })
