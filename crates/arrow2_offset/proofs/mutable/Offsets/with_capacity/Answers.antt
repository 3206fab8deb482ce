use Rattle.std.proofs.Common.{◌∙◌, ap}
use Rattle.arrow2_offset.proofs.Growing.{alone}
use Rattle.arrow2_offset.proofs.mutable.Offsets.with_capacity.Goals as goal

pub invariant_of-result : goal.invariant_of-result
invariant_of-result g c =
    let zero = c.usize_as.ensures in
    (alone g.O.Number.value g.O.OffsetNumber.MAX c.in_ok-offsets.offsets.items c.push.new.self.items c.usize_as.result c.in_ok-offsets.ensures.items c.in_ok-push.ensures.items zero).0

pub returns-clause-ok : goal.returns-clause-ok
returns-clause-ok g c =
    let zero = c.usize_as.ensures in
    let d = alone g.O.Number.value g.O.OffsetNumber.MAX c.in_ok-offsets.offsets.items c.push.new.self.items c.usize_as.result c.in_ok-offsets.ensures.items c.in_ok-push.ensures.items zero in (d.1, d.2)
