use Rattle.std.proofs.Common.{rules, not}
use Rattle.arrow2_compute.specs.Comparisons.{bytes_eq}
use Rattle.arrow2_compute.proofs.comparison.binary.neq.Goals as goal

pub returns-clause-items : goal.returns-clause-items
returns-clause-items g c = c.compare_pairs.ensures.items (λ left right. not (bytes_eq left right)) (search rules)
