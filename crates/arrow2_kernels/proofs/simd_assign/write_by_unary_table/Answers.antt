use Rattle.std.proofs.Common.{◌∙◌, [], ◌∷◌, arith}
use Rattle.arrow2_model.specs.Lists.{bits}
use Rattle.arrow2_kernels.proofs.LaneSteps.{same_table}
use Rattle.arrow2_kernels.proofs.simd_assign.write_by_unary_table.Goals as goal

pub returns-in-0 : goal.returns-in-0
returns-in-0 c = c.write_unary.ensures ∙ same_table c.args.t 0 (bits c.args.bytes.now ∷ []) c.in-0.is

pub returns-in-1 : goal.returns-in-1
returns-in-1 c = c.write_unary-in-1.ensures ∙ same_table c.args.t 1 (bits c.args.bytes.now ∷ []) c.in-1.is

pub returns-in-2 : goal.returns-in-2
returns-in-2 c = c.write_unary-in-2.ensures ∙ same_table c.args.t 2 (bits c.args.bytes.now ∷ []) c.in-2.is

pub returns-in_default : goal.returns-in_default
returns-in_default c = c.write_unary-in_default.ensures ∙ same_table c.args.t 3 (bits c.args.bytes.now ∷ []) (omega arith)
