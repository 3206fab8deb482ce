use Rattle.std.proofs.Common.{inr, arith}
use Rattle.arrow2_text.proofs.growing.Growing.extend_within.Goals as goal

pub try_extend_from_slice-requires : goal.try_extend_from_slice-requires
try_extend_from_slice-requires g c = record { inside = inr (omega (arith, c.len-2.ensures.offsets, c.len-2.ensures.slots, c.offsets-offsets.ensures.slots, c.requires.inside)) }
