use Rattle.std.proofs.Common.{ap, arith, length, refl}
use Rattle.arrow2_offset.proofs.Growing.{length_slots}
use Rattle.arrow2_offset.proofs.iterator.LengthsExactSizeIterator.len.Goals as goal

pub returns-clause-value : goal.returns-clause-value
returns-clause-value g c =
    let items = c.self.inside.offsets.now in
    let n = length_slots g.O.Number.value items (length items) c.self.invariant refl in
    let v = ap length c.self.view_is in
    omega (arith, n, v)
