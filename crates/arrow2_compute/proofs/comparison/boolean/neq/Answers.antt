use Rattle.std.proofs.Common.{◌≡◌, subst, IfOk}
use Rattle.std.specs.Simd.Lanes.{zip2}
use Rattle.arrow2_array.specs.Items.{boolean_items}
use Rattle.arrow2_numeric.specs.Pairs.{of_both}
use Rattle.arrow2_compute.proofs.Comparisons.{neq-table}
use Rattle.arrow2_compute.proofs.comparison.boolean.neq.Goals as goal

pub returns-clause-items : goal.returns-clause-items
returns-clause-items c = subst (λ test. IfOk c.compare_pairs.result (λ a. boolean_items a ≡ zip2 (of_both test) (boolean_items c.args.lhs.now) (boolean_items c.args.rhs.now))) neq-table c.compare_pairs.ensures.items
