use Rattle.std.proofs.Common.{arith, ap, sym, Some, ◌≡◌, length}
use Rattle.arrow2_index.proofs.Ranges.{how_many}
use Rattle.arrow2_index.proofs.index.IndexRangeIterator.size_hint.Goals as goal

pub returns-clause-exact : goal.returns-clause-exact
returns-clause-exact g c =
    let left : length c.args.self.now ≡ c.distance_to-left.result = how_many (g.I.Number.value c.self.inside.start) (g.I.Number.value c.self.inside.end) c.distance_to-left.result c.args.self.now c.distance_to-left.ensures c.self.view_is in
    (sym left, ap Some (sym left))

pub returns-clause-lower : goal.returns-clause-lower
returns-clause-lower g c = let left = (returns-clause-exact g c).0 in λ _. omega arith

pub returns-clause-upper : goal.returns-clause-upper
returns-clause-upper g c = let left = (returns-clause-exact g c).0 in (tt, omega arith)
