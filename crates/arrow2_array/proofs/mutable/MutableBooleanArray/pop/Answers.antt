use Rattle.std.proofs.Common.{length, ap, sym, ◌∙◌, ◌∷◌, [], arith, length-append}
use Rattle.arrow2_array.proofs.Items.{popped}
use Rattle.arrow2_array.proofs.mutable.MutableBooleanArray.pop.Goals as goal

pub returns-clause-last : goal.returns-clause-last
returns-clause-last c =
    let more = c.pop.new.self.items in
    let others = c.pop-2.new.self.items in
    let a = ap length c.in_ok-value.ensures.last ∙ length-append more (c.in_ok-value.value ∷ []) in
    let b = ap length c.in_ok-valid.ensures.last ∙ length-append others (c.in_ok-valid.valid ∷ []) in
    sym (ap (λ a. a.items) c.self.view_is)
    ∙ popped c.self.inside.values.items c.self.inside.validity.items more others c.in_ok-value.value c.in_ok-valid.valid c.then_some.result c.self.invariant c.in_ok-value.ensures.last c.in_ok-valid.ensures.last c.then_some.ensures (omega (arith, a, b, c.self.invariant))
