use Rattle.std.proofs.Common.{◌∙◌, ◌<◌, sym, ap, arith, rules, length, refl}
use Rattle.std.proofs.lemmas.List.{length-map}
use Rattle.arrow2_offset.proofs.Cursor.{no_length, in_order, first_length}
use Rattle.arrow2_offset.proofs.iterator.LengthsIterator.next.Goals as goal

pub returns-then-self-eq1-clause-steps : goal.returns-then-self-eq1-clause-steps
returns-then-self-eq1-clause-steps g c =
    let e = sym c.self.view_is ∙ no_length g.O.Number.value c.self.inside.offsets.now c.if-self-eq1.true in
    (e, e)

pub distance-length-requires : goal.distance-length-requires
distance-length-requires g c =
    let items = c.self.inside.offsets.now in
    let m = length-map items g.O.Number.value in
    let more : 1 < length items = omega (arith, m, c.self.invariant.some, c.if-self-eq1.false) in
    rw (← c.index-self-0.is, ← c.index-self-1.is) (in_order g.O.Number.value items c.index-self-0.result c.index-self-1.result c.self.invariant more c.index-self-0.is c.index-self-1.is)

pub invariant_of-self : goal.invariant_of-self
invariant_of-self g c =
    let items = c.self.inside.offsets.now in
    let m = length-map items g.O.Number.value in
    let more : 1 < length items = omega (arith, m, c.self.invariant.some, c.if-self-eq1.false) in
    (first_length g.O.Number.value items _ c.index-self-0.result c.index-self-1.result c.distance-length.result c.self.invariant more c.index-self-0.is c.index-self-1.is (rw (c.index-self-0.is, c.index-self-1.is) c.distance-length.ensures) refl).0

pub returns-clause-steps : goal.returns-clause-steps
returns-clause-steps g c =
    let items = c.self.inside.offsets.now in
    let m = length-map items g.O.Number.value in
    let more : 1 < length items = omega (arith, m, c.self.invariant.some, c.if-self-eq1.false) in
    sym c.self.view_is ∙ (first_length g.O.Number.value items _ c.index-self-0.result c.index-self-1.result c.distance-length.result c.self.invariant more c.index-self-0.is c.index-self-1.is (rw (c.index-self-0.is, c.index-self-1.is) c.distance-length.ensures) refl).1

pub returns-clause-goes : goal.returns-clause-goes
returns-clause-goes g c = let steps = returns-clause-steps g c in let fewer = ap length steps in search (rules, arith)
