use Rattle.arrow2_model.specs.Lists.{buffer_items}
use Rattle.arrow2_offset.proofs.Growing.{value_last_of}
use Rattle.arrow2_offset.proofs.immutable.OffsetsBuffer.last.Goals as goal

pub returns-clause-value : goal.returns-clause-value
returns-clause-value g c =
    let s = c.as_slice-offsets in
    value_last_of g.O.Number.value s.result.now (buffer_items c.args.self.now) c.index-offsets-offsets.result s.ensures.offsets s.ensures.valid c.index-offsets-offsets.is
