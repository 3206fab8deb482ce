use Rattle.std.proofs.Common.{rules}
use Rattle.std.specs.Ordering.{partial_gt}
use Rattle.arrow2_compute.specs.Comparisons.{bytes_cmp}
use Rattle.arrow2_compute.proofs.comparison.binary.gt.Goals as goal

pub returns-clause-items : goal.returns-clause-items
returns-clause-items g c = c.compare_pairs.ensures.items (partial_gt bytes_cmp) (search rules)
