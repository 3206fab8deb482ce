use Rattle.std.proofs.Common.{arith, ◌∙◌, ◌+◌, ◌≤◌, sym, ap}
use Rattle.arrow2_offset.specs.Offsets.{last_of_growing}
use Rattle.arrow2_offset.proofs.Growing.{pushed}
use Rattle.arrow2_offset.proofs.mutable.Offsets.push_within.Goals as goal

pub overflow_add-last : goal.overflow_add-last
overflow_add-last g c =
    let within : c.last_number-last.result + c.args.len ≤ g.O.OffsetNumber.MAX = omega arith in
    let small = g.met.O.OffsetNumber.max_size_law _ ((g.met.O.OffsetNumber.max_law (c.last_number-last.result + c.args.len)).1 within) in
    omega (arith, small)

pub invariant_of-self : goal.invariant_of-self
invariant_of-self g c =
    let last = c.last_number-last.ensures.value ∙ ap last_of_growing (sym c.self.view_is) in
    (pushed g.O.Number.value g.O.OffsetNumber.MAX c.self.inside.offsets.items c.push_reserved.new.self.items c.usize_as.result c.last_number-last.result c.args.len c.self.invariant.0 last c.push_reserved.ensures.items c.usize_as.ensures (omega arith)).0

pub returns-clause-grown : goal.returns-clause-grown
returns-clause-grown g c =
    let last = c.last_number-last.ensures.value ∙ ap last_of_growing (sym c.self.view_is) in
    let d = pushed g.O.Number.value g.O.OffsetNumber.MAX c.self.inside.offsets.items c.push_reserved.new.self.items c.usize_as.result c.last_number-last.result c.args.len c.self.invariant.0 last c.push_reserved.ensures.items c.usize_as.ensures (omega arith) in
    rw (← c.self.view_is) (d.1, d.2)
