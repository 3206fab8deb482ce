use Rattle.std.proofs.Common.{◌+◌, ◌-◌, ◌∙◌, [], ◌∷◌, sym, ap, arith, length, map, take, refl, length-append}
use Rattle.arrow2_offset.specs.Offsets.{lengths_of}
use Rattle.arrow2_offset.proofs.Growing.{length_slots}
use Rattle.arrow2_offset.proofs.Cursor.{no_length, last_length}
use Rattle.arrow2_offset.proofs.iterator.LengthsDoubleEndedIterator.next_back.Goals as goal

pub returns-then-self-eq1-clause-steps : goal.returns-then-self-eq1-clause-steps
returns-then-self-eq1-clause-steps g c =
    let e = sym c.self.view_is ∙ no_length g.O.Number.value c.self.inside.offsets.now c.if-self-eq1.true in
    (e, e)

pub slot_span-start-requires-clause-inside : goal.slot_span-start-requires-clause-inside
slot_span-start-requires-clause-inside g c =
    let items = c.self.inside.offsets.now in
    let n = length_slots g.O.Number.value items (length items) c.self.invariant refl in
    let some = c.if-self-eq1.false in
    omega (arith, n, some)

pub invariant_of-self : goal.invariant_of-self
invariant_of-self g c =
    let items = c.self.inside.offsets.now in
    let n = length_slots g.O.Number.value items (length items) c.self.invariant refl in
    (last_length g.O.Number.value items (length items - 2) c.slot_span-start.result.0 c.slot_span-start.result.1 c.self.invariant (omega (arith, n, c.if-self-eq1.false)) c.slot_span-start.ensures.end).0

pub returns-clause-steps : goal.returns-clause-steps
returns-clause-steps g c =
    let items = c.self.inside.offsets.now in
    let n = length_slots g.O.Number.value items (length items) c.self.invariant refl in
    sym c.self.view_is ∙ (last_length g.O.Number.value items (length items - 2) c.slot_span-start.result.0 c.slot_span-start.result.1 c.self.invariant (omega (arith, n, c.if-self-eq1.false)) c.slot_span-start.ensures.end).1

pub returns-clause-goes : goal.returns-clause-goes
returns-clause-goes g c =
    let items = c.self.inside.offsets.now in
    let front = lengths_of (map g.O.Number.value (take (length items - 2 + 1) items)) in
    let last = c.slot_span-start.result.1 - c.slot_span-start.result.0 in
    let fewer = ap length (returns-clause-steps g c) ∙ length-append front (last ∷ []) in
    record { on = λ _. (tt, tt, omega (arith, fewer)); keeps = tt; rests = λ _. tt }
