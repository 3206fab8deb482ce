use Rattle.std.proofs.Common.{rules, not}
use Rattle.arrow2_compute.specs.Comparisons.{bytes_eq}
use Rattle.arrow2_compute.proofs.comparison.binary.neq_scalar.Goals as goal

pub returns-clause-items : goal.returns-clause-items
returns-clause-items g c = c.compare_each.ensures.items (λ value. not (bytes_eq value c.args.scalar.now)) (search rules)
