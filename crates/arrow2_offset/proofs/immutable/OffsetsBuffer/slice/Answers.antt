use Rattle.std.proofs.Common.{◌+◌}
use Rattle.arrow2_offset.proofs.Growing.{part_of, same_inside}
use Rattle.arrow2_offset.proofs.immutable.OffsetsBuffer.slice.Goals as goal

pub invariant_of-self : goal.invariant_of-self
invariant_of-self g c =
    let b = c.self.inside.buffer in
    let within = same_inside g.O.Number.value b c.args.self.now (c.args.offset + c.args.len) c.self.view_is c.requires.inside in
    (part_of g.O.Number.value g.O.OffsetNumber.MAX b c.slice.new.self c.args.offset c.args.len c.self.invariant c.slice.ensures.items c.requires.not_empty within).0

pub returns-clause-start : goal.returns-clause-start
returns-clause-start g c =
    let b = c.self.inside.buffer in
    let within = same_inside g.O.Number.value b c.args.self.now (c.args.offset + c.args.len) c.self.view_is c.requires.inside in
    rw (← c.self.view_is) (part_of g.O.Number.value g.O.OffsetNumber.MAX b c.slice.new.self c.args.offset c.args.len c.self.invariant c.slice.ensures.items c.requires.not_empty within).1

pub returns-clause-lengths : goal.returns-clause-lengths
returns-clause-lengths g c =
    let b = c.self.inside.buffer in
    let within = same_inside g.O.Number.value b c.args.self.now (c.args.offset + c.args.len) c.self.view_is c.requires.inside in
    rw (← c.self.view_is) (part_of g.O.Number.value g.O.OffsetNumber.MAX b c.slice.new.self c.args.offset c.args.len c.self.invariant c.slice.ensures.items c.requires.not_empty within).2
