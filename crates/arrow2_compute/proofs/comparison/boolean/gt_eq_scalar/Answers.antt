use Rattle.std.proofs.Common.{◌≡◌, map, subst, IfOk, option_map}
use Rattle.arrow2_array.specs.Items.{boolean_items}
use Rattle.arrow2_compute.proofs.Comparisons.{gt_eq-table}
use Rattle.arrow2_compute.proofs.comparison.boolean.gt_eq_scalar.Goals as goal

pub returns-clause-items : goal.returns-clause-items
returns-clause-items c = subst (λ test. IfOk c.compare_each.result (λ a. boolean_items a ≡ map (option_map (λ value. test value c.args.scalar)) (boolean_items c.args.array.now))) gt_eq-table c.compare_each.ensures.items
