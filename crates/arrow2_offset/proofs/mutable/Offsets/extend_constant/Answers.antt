use Rattle.std.proofs.Common.{arith, ◌≡◌, ◌∙◌, ◌+◌, sym, ap, pos}
use Rattle.arrow2_types.specs.Failures.{error_of}
use Rattle.arrow2_offset.specs.Offsets.{last_of_growing}
use Rattle.arrow2_offset.proofs.Growing.{length_slots, repeated}
use Rattle.arrow2_offset.proofs.Grown.{grown}
use Rattle.arrow2_offset.proofs.mutable.Offsets.extend_constant.Goals as goal

pub invariant_of-self-2 : goal.invariant_of-self-2
invariant_of-self-2 g c =
    let v = c.self.inside.offsets in
    let count : c.in-Some.count ≡ v.len + c.args.additional = omega (arith, c.in-Some.ensures, c.len.ensures) in
    (repeated g.O.Number.value g.O.OffsetNumber.MAX v.items c.resize.new.self.items c.last-last.result.now v.len c.in-Some.count c.args.additional c.self.invariant v.ok.0 count c.in_ok-resize.ensures.items (c.last-last.ensures.value ∙ ap (λ o. pos (last_of_growing o)) (sym c.self.view_is))).0

pub returns : goal.returns
returns g c =
    let v = c.self.inside.offsets in
    let count : c.in-Some.count ≡ v.len + c.args.additional = omega (arith, c.in-Some.ensures, c.len.ensures) in
    let d = repeated g.O.Number.value g.O.OffsetNumber.MAX v.items c.resize.new.self.items c.last-last.result.now v.len c.in-Some.count c.args.additional c.self.invariant v.ok.0 count c.in_ok-resize.ensures.items (c.last-last.ensures.value ∙ ap (λ o. pos (last_of_growing o)) (sym c.self.view_is)) in
    let n = length_slots g.O.Number.value v.items v.len c.self.invariant.0 v.ok.0 in
    rw (← c.self.view_is) (grown error_of _ _ _ _ _ _ (omega (arith, n, v.ok.1)) (d.1, d.2) (omega (arith, n)) (omega arith))
