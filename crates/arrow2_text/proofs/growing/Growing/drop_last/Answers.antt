use Rattle.std.proofs.Common.{◌≡◌, ◌+◌, ◌-◌, ◌∙◌, length, sum, take, min, ap, sym, arith}
use Rattle.arrow2_offset.specs.NestedLists.{cut}
use Rattle.arrow2_text.proofs.LastSlot.{lost-last}
use Rattle.arrow2_text.proofs.SlotLists.{popped-bits}
use Rattle.arrow2_text.proofs.growing.Growing.drop_last.Goals as goal

pub returns : goal.returns
returns g c =
    let xs = c.self.inside.values.items in
    let ns = c.self.inside.offsets.lengths in
    let vs = c.self.inside.validity.items in
    let k = c.len.result - 1 in
    let s = sum (take k ns) in
    let held = ap (λ slots. length slots.valid) c.self.view_is in
    let last : k + 1 ≡ length ns = omega (arith, held, c.len.ensures.valid, c.requires, c.self.invariant.2) in
    let start : c.start_end-start.result.0 ≡ s = omega (arith, c.start_end-start.ensures.start, c.self.invariant.0) in
    let left : c.truncate.new.self.items ≡ take s xs = c.truncate.ensures.items ∙ ap (λ j. take j xs) start in
    let positions : length ns - 1 ≡ k = omega (arith, last) in
    let lengths : c.pop.new.self.lengths ≡ take k ns = c.pop.ensures.lengths ∙ ap (λ j. take j ns) positions in
    lost-last xs ns vs k c.args.self.now _ last c.self.invariant.1 c.self.invariant.2
    (ap (λ slots. slots.values) (sym c.self.view_is)) (ap (λ slots. slots.valid) (sym c.self.view_is)) (ap (λ slots. slots.bytes) (sym c.self.view_is))
    (ap (λ l. cut l c.pop.new.self.lengths) left ∙ ap (cut (take s xs)) lengths)
    (popped-bits c.pop-2.result vs c.pop-2.new.self.items k (omega (arith, last, c.self.invariant.2)) c.pop-2.ensures.last)
    (ap length left)
    (ap (λ slots. slots.data_type) c.self.view_is)
    (ap (λ m. min m c.pop-2.new.self.capacity) c.pop.ensures.capacity ∙ (ap (min c.self.inside.offsets.capacity) c.pop-2.ensures.capacity ∙ ap (λ slots. slots.capacity) c.self.view_is))
    (c.truncate.ensures.capacity ∙ ap (λ slots. slots.byte_capacity) c.self.view_is)
