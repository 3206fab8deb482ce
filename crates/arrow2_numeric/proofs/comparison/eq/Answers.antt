use Rattle.std.proofs.Common.{rules}
use Rattle.arrow2_numeric.proofs.comparison.eq.Goals as goal

pub returns-clause-items : goal.returns-clause-items
returns-clause-items g c = c.compare_pairs.ensures.items g.T.PartialEq.eq (search rules)
