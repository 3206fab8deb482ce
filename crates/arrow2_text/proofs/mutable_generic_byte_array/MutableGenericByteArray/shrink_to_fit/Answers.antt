use Rattle.std.proofs.Common.{ap, ◌∙◌}
use Rattle.arrow2_walks.specs.Zipped.{zipped}
use Rattle.arrow2_text.proofs.GrowthItems.{none-valid}
use Rattle.arrow2_text.proofs.mutable_generic_byte_array.MutableGenericByteArray.shrink_to_fit.Goals as goal

pub returns : goal.returns
returns g c =
    let old = c.self.inside.slots in
    let new = c.shrink_to_fit.new.self in
    let stated = c.shrink_to_fit.ensures in
    rw (← c.self.view_is) (record {
      ok = stated.ok;
      items = ap (zipped new.values) stated.slots.1 ∙ ap (λ l. zipped l old.valid) stated.slots.0;
      bytes = stated.slots.2;
      data_type = stated.slots.3;
      capacity = stated.capacity;
      byte_capacity = stated.byte_capacity;
      frees = λ e. stated.frees (none-valid old.values old.valid stated.same e);
      frees_bytes = stated.frees_bytes;
    })
