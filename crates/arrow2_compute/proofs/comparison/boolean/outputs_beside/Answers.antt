use Rattle.arrow2_compute.proofs.Comparisons.{beside-false, beside-true}
use Rattle.arrow2_compute.proofs.comparison.boolean.outputs_beside.Goals as goal

pub returns-then-scalar : goal.returns-then-scalar
returns-then-scalar c value = rw c.if-scalar.true (beside-true c.args.table value)

pub returns-else-scalar : goal.returns-else-scalar
returns-else-scalar c value = rw c.if-scalar.false (beside-false c.args.table value)
