use Rattle.arrow2_offset.proofs.Growing.{whole_of}
use Rattle.arrow2_offset.proofs.immutable.OffsetsBufferTryFromOffsets.try_from.Goals as goal

pub invariant_of-result : goal.invariant_of-result
invariant_of-result g c = whole_of g.O.Number.value g.O.OffsetNumber.MAX c.in_ok-buffer.buffer c.into_inner.result.items c.args.offsets.start c.args.offsets.lengths c.in_ok-buffer.ensures c.into_inner.ensures.offsets c.into_inner.ensures.fits
