use Rattle.std.proofs.Common.{◌+◌, arith, length, refl}
use Rattle.arrow2_offset.proofs.Appending.{value_natural}
use Rattle.arrow2_offset.proofs.Growing.{length_slots, slot_read}
use Rattle.arrow2_offset.proofs.slot.slot_span.Goals as goal

pub as_usize-requires : goal.as_usize-requires
as_usize-requires g c =
    let n = length_slots g.O.Number.value c.args.offsets.now (length c.args.offsets.now) c.requires.valid refl in
    value_natural g.O.Number.value c.args.offsets.now c.index-offsets-index.result c.args.index c.requires.valid (omega (arith, n)) c.index-offsets-index.is

pub as_usize-requires-2 : goal.as_usize-requires-2
as_usize-requires-2 g c =
    let n = length_slots g.O.Number.value c.args.offsets.now (length c.args.offsets.now) c.requires.valid refl in
    value_natural g.O.Number.value c.args.offsets.now c.index-offsets-index-2.result (c.args.index + 1) c.requires.valid (omega (arith, n)) c.index-offsets-index-2.is

pub returns : goal.returns
returns g c =
    let d = slot_read g.O.Number.value c.args.offsets.now c.index-offsets-index.result c.index-offsets-index-2.result c.args.index c.as_usize.result c.as_usize-2.result c.requires.valid c.requires.inside c.index-offsets-index.is c.index-offsets-index-2.is c.as_usize.ensures.value c.as_usize-2.ensures.value in
    record { start = d.0; end = d.1; within = d.2 }
