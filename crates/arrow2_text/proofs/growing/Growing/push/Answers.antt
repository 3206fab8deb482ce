use Rattle.std.proofs.Common.{◌∙◌, sym, arith}
use Rattle.arrow2_text.proofs.SlotPushes.{not-pushed, pushed, taken-back}
use Rattle.arrow2_text.proofs.growing.Growing.push.Goals as goal

pub push_slot-pushed-requires : goal.push_slot-pushed-requires
push_slot-pushed-requires g c = record { counted = omega (arith, c.self.invariant.2, c.len.ensures) }

pub returns-in_err-try_push_usize : goal.returns-in_err-try_push_usize
returns-in_err-try_push_usize g c =
    let is = c.self.invariant in
    rw (← c.self.view_is) (not-pushed g.O.OffsetNumber.MAX _ _ _ _ _ _ _ _ _ is.0 is.1 is.2 _ c.from_residual.result c.from_residual.ensures c.in_err-try_push_usize.ensures (omega (arith, is.2, c.len.ensures)) c.last.ensures.fits)

pub returns-then-is_err : goal.returns-then-is_err
returns-then-is_err g c =
    let is = c.self.invariant in
    let slot = c.push_slot-pushed in
    rw (← c.self.view_is) (taken-back g.O.OffsetNumber.MAX _ _ _ _ _ _ _ _ _ is.0 is.1 is.2 slot.result c.in_ok-try_push_usize.field-0 c.pop.new.self _ _ _ _
    (sym c.is_err.ensures.value ∙ c.if-is_err.true) c.in_ok-try_push_usize.ensures c.pop.ensures.lengths c.pop.ensures.capacity slot.ensures.err_values slot.ensures.err_valid slot.ensures.only slot.ensures.succeeds (omega (arith, is.2, c.len.ensures)) slot.ensures.capacity slot.ensures.byte_capacity)

pub returns-else-is_err : goal.returns-else-is_err
returns-else-is_err g c =
    let is = c.self.invariant in
    let slot = c.push_slot-pushed in
    rw (← c.self.view_is) (pushed g.O.OffsetNumber.MAX _ _ _ _ _ _ _ _ _ is.0 is.1 is.2 slot.result c.in_ok-try_push_usize.field-0 _ _ _ _
    (sym c.is_err.ensures.value ∙ c.if-is_err.false) c.in_ok-try_push_usize.ensures slot.ensures.ok_values slot.ensures.ok_valid (omega (arith, is.2, c.len.ensures)) slot.ensures.capacity slot.ensures.byte_capacity)
