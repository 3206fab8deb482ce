use Rattle.std.proofs.Common.{rules}
use Rattle.arrow2_compute.specs.Comparisons.{bytes_eq}
use Rattle.arrow2_compute.proofs.comparison.binary.eq_scalar.Goals as goal

pub returns-clause-items : goal.returns-clause-items
returns-clause-items g c = c.compare_each.ensures.items (λ value. bytes_eq value c.args.scalar.now) (search rules)
