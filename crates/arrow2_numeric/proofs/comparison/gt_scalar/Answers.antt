use Rattle.std.proofs.Common.{rules}
use Rattle.std.specs.Ordering.{partial_gt}
use Rattle.arrow2_numeric.proofs.comparison.gt_scalar.Goals as goal

pub returns-clause-items : goal.returns-clause-items
returns-clause-items g c = c.compare_each.ensures.items (λ value. partial_gt g.T.PartialOrd.partial_cmp value c.args.scalar) (search rules)
