use Rattle.std.proofs.Common.{◌∙◌, sym, arith}
use Rattle.arrow2_text.proofs.LastSlot.{no-slot, not-popped, popped-slot}
use Rattle.arrow2_text.proofs.growing.Growing.pop.Goals as goal

pub returns-in_default : goal.returns-in_default
returns-in_default g c = no-slot (λ value. value.items) c.args.self.now (sym c.len.ensures.valid ∙ c.len.ensures.values) (omega (arith, c.len.ensures.valid))

pub returns-in_err-item : goal.returns-in_err-item
returns-in_err-item g c = not-popped (λ value. value.items) c.args.self.now c.in_err-item.field-0.0 c.from_residual.result c.in-Some.last c.from_residual.ensures (sym c.len.ensures.valid ∙ c.len.ensures.values) (omega (arith, c.len.ensures.valid, c.in-Some.ensures)) c.in_err-item.ensures.only c.in_err-item.ensures.succeeds

pub returns : goal.returns
returns g c = popped-slot (λ value. value.items) c.args.self.now c.drop_last.new.self c.in_ok-item.item c.in-Some.last (omega (arith, c.len.ensures.valid, c.in-Some.ensures)) c.drop_last.ensures c.in_ok-item.ensures.ok
