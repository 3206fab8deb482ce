use Rattle.std.proofs.Common.{◌≡◌, ◌-◌, ap, arith, length, refl, Some}
use Rattle.arrow2_offset.proofs.Growing.{length_slots}
use Rattle.arrow2_offset.proofs.iterator.LengthsIterator.size_hint.Goals as goal

pub returns-clause-exact : goal.returns-clause-exact
returns-clause-exact g c =
    let items = c.self.inside.offsets.now in
    let n = length_slots g.O.Number.value items (length items) c.self.invariant refl in
    let v = ap length c.self.view_is in
    let left : length items - 1 ≡ length c.args.self.now = omega (arith, n, v) in
    (left, ap Some left)

pub returns-clause-lower : goal.returns-clause-lower
returns-clause-lower g c = let left = (returns-clause-exact g c).0 in λ _. omega arith

pub returns-clause-upper : goal.returns-clause-upper
returns-clause-upper g c = let left = (returns-clause-exact g c).0 in (tt, omega arith)
