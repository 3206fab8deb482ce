use Rattle.std.proofs.Common.{◌≡◌, ◌∙◌, rules, arith, ap, sym, length, refl, [], ◌<ℤ◌}
use Rattle.std.proofs.lemmas.Int.{ints}
use Rattle.arrow2_index.proofs.Ranges.{integers-none, integers-first}
use Rattle.arrow2_index.proofs.index.IndexRangeIterator.next.Goals as goal

pub returns-then-eq-clause-steps : goal.returns-then-eq-clause-steps
returns-then-eq-clause-steps g c =
    let same : g.I.Number.value c.self.inside.start ≡ g.I.Number.value c.self.inside.end = (g.met.I.Number.eq_law _ _ g.met.I.Integral.exact_law).0 (search rules) in
    let none : c.args.self.now ≡ [] = sym c.self.view_is ∙ integers-none _ _ 0 (omega (arith, ints, same)) refl in
    (none, none)

pub returns-clause-steps : goal.returns-clause-steps
returns-clause-steps g c =
    let law = g.met.I.Number.eq_law c.self.inside.start c.self.inside.end g.met.I.Integral.exact_law in
    let other : g.I.Number.value c.self.inside.start ≡ g.I.Number.value c.self.inside.end → ⊥ = λ same. let e = law.1 same in let no : ⊥ = search rules in no in
    let below : g.I.Number.value c.self.inside.start <ℤ g.I.Number.value c.self.inside.end = omega (arith, ints, other, c.self.invariant) in
    sym c.self.view_is ∙ integers-first _ _ _ below c.next_towards-self-inside.ensures

pub returns-clause-goes : goal.returns-clause-goes
returns-clause-goes g c = let steps = returns-clause-steps g c in let fewer = ap length steps in search (rules, arith)
