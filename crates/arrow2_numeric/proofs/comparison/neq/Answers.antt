use Rattle.std.proofs.Common.{rules, not}
use Rattle.arrow2_numeric.proofs.comparison.neq.Goals as goal

pub returns-clause-items : goal.returns-clause-items
returns-clause-items g c = c.compare_pairs.ensures.items (λ left right. not (g.T.PartialEq.eq left right)) (search rules)
