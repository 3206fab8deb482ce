use Rattle.std.proofs.Common.{rules}
use Rattle.std.specs.Ordering.{partial_lt}
use Rattle.arrow2_compute.specs.Comparisons.{bytes_cmp}
use Rattle.arrow2_compute.proofs.comparison.binary.lt.Goals as goal

pub returns-clause-items : goal.returns-clause-items
returns-clause-items g c = c.compare_pairs.ensures.items (partial_lt bytes_cmp) (search rules)
