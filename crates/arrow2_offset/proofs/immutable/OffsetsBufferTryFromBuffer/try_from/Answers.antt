use Rattle.std.proofs.Common.{refl}
use Rattle.arrow2_offset.proofs.Growing.{buffer_of}
use Rattle.arrow2_offset.proofs.immutable.OffsetsBufferTryFromBuffer.try_from.Goals as goal

pub invariant_of-result : goal.invariant_of-result
invariant_of-result g c = buffer_of g.O.Number.value g.O.OffsetNumber.MAX c.args.buffer c.as_slice.result.now c.as_slice.ensures c.in_ok-try_check_offsets.ensures.ok

pub returns : goal.returns
returns g c = ((invariant_of-result g c).0, refl)
