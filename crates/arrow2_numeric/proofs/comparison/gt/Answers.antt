use Rattle.std.proofs.Common.{rules}
use Rattle.std.specs.Ordering.{partial_gt}
use Rattle.arrow2_numeric.proofs.comparison.gt.Goals as goal

pub returns-clause-items : goal.returns-clause-items
returns-clause-items g c = c.compare_pairs.ensures.items (partial_gt g.T.PartialOrd.partial_cmp) (search rules)
