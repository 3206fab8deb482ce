use Rattle.std.proofs.Common.{arith, ◌∙◌, sym, ap}
use Rattle.arrow2_offset.specs.Offsets.{last_of_growing}
use Rattle.arrow2_offset.proofs.Growing.{length_slots, pushed}
use Rattle.arrow2_offset.proofs.Grown.{grown}
use Rattle.arrow2_offset.proofs.mutable.Offsets.push_length.Goals as goal

pub invariant_of-self-2 : goal.invariant_of-self-2
invariant_of-self-2 g c =
    let last = c.last_number-last.ensures.value ∙ ap last_of_growing (sym c.self.view_is) in
    (pushed g.O.Number.value g.O.OffsetNumber.MAX c.self.inside.offsets.items c.push.new.self.items c.usize_as.result c.last_number-last.result c.args.len c.self.invariant.0 last c.in_ok-push.ensures.items c.usize_as.ensures (omega arith)).0

pub returns : goal.returns
returns g c =
    let last = c.last_number-last.ensures.value ∙ ap last_of_growing (sym c.self.view_is) in
    let d = pushed g.O.Number.value g.O.OffsetNumber.MAX c.self.inside.offsets.items c.push.new.self.items c.usize_as.result c.last_number-last.result c.args.len c.self.invariant.0 last c.in_ok-push.ensures.items c.usize_as.ensures (omega arith) in
    let v = c.self.inside.offsets in
    let n = length_slots g.O.Number.value v.items v.len c.self.invariant.0 v.ok.0 in
    rw (← c.self.view_is) (grown (λ error. error) _ _ _ _ _ _ (omega (arith, n, v.ok.1)) (d.1, d.2) (omega arith) (omega arith))
