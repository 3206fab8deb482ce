use Rattle.std.proofs.Common.{rules, not}
use Rattle.arrow2_numeric.proofs.comparison.neq_scalar.Goals as goal

pub returns-clause-items : goal.returns-clause-items
returns-clause-items g c = c.compare_each.ensures.items (λ value. not (g.T.PartialEq.eq value c.args.scalar)) (search rules)
