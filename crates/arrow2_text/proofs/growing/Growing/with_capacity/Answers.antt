use Rattle.std.proofs.Common.{ap, length, sum, sym, ◌∙◌, arith}
use Rattle.arrow2_offset.specs.NestedLists.{cut}
use Rattle.arrow2_text.proofs.growing.Growing.with_capacity.Goals as goal

pub invariant_of-result : goal.invariant_of-result
invariant_of-result g c =
    let lengths = c.in_ok-offsets.ensures.ok.1 in
    (c.in_ok-offsets.ensures.ok.0, ap sum lengths ∙ sym (ap length c.in_ok-values.ensures.items), ap length c.in_ok-validity.ensures.ok ∙ sym (ap length lengths))

pub returns-clause-ok : goal.returns-clause-ok
returns-clause-ok g c =
    (ap (cut c.in_ok-values.values.items) c.in_ok-offsets.ensures.ok.1, c.in_ok-validity.ensures.ok, ap length c.in_ok-values.ensures.items)

pub returns-clause-capacity : goal.returns-clause-capacity
returns-clause-capacity g c = (omega (arith, c.in_ok-offsets.ensures.capacity, c.in_ok-validity.ensures.capacity), c.in_ok-values.ensures.capacity)

pub returns-clause-overflow : goal.returns-clause-overflow
returns-clause-overflow g c = (λ is. cc, λ h. let never = c.in_ok-offsets.ensures.overflow.1 h in cc)
