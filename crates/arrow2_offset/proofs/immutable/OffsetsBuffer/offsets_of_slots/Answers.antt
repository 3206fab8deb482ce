use Rattle.std.proofs.Common.{◌+◌, ◌-◌, arith, refl}
use Rattle.arrow2_model.specs.Lists.{buffer_items}
use Rattle.arrow2_offset.proofs.Growing.{slice_of}
use Rattle.arrow2_offset.proofs.immutable.OffsetsBuffer.offsets_of_slots.Goals as goal

pub returns : goal.returns
returns g c =
    let s = c.as_slice in
    let d = slice_of g.O.Number.value s.result.now _ (buffer_items c.args.self.now) c.args.start (c.args.start + c.args.len + 1 - c.args.start) c.args.len s.ensures.offsets s.ensures.valid refl (omega arith) c.requires in
    record { valid = d.0; lengths = d.1 }
