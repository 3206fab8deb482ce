use Rattle.std.proofs.Common.{rules}
use Rattle.arrow2_compute.specs.Comparisons.{bytes_eq}
use Rattle.arrow2_compute.proofs.comparison.binary.eq.Goals as goal

pub returns-clause-items : goal.returns-clause-items
returns-clause-items g c = c.compare_pairs.ensures.items bytes_eq (search rules)
