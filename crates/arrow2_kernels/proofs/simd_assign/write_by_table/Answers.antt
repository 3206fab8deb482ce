use Rattle.std.proofs.Common.{◌∙◌, ◌*◌, [], ◌∷◌, take, length, arith}
use Rattle.arrow2_model.specs.Lists.{bits}
use Rattle.arrow2_kernels.proofs.LaneSteps.{same_table}
use Rattle.arrow2_kernels.proofs.simd_assign.write_by_table.Goals as goal

pub returns-in-0 : goal.returns-in-0
returns-in-0 c = c.write_binary.ensures ∙ same_table c.args.t 0 (bits c.args.bytes.now ∷ take (8 * length c.args.bytes.now) (bits c.args.other.now) ∷ []) c.in-0.is

pub returns-in-1 : goal.returns-in-1
returns-in-1 c = c.write_binary-in-1.ensures ∙ same_table c.args.t 1 (bits c.args.bytes.now ∷ take (8 * length c.args.bytes.now) (bits c.args.other.now) ∷ []) c.in-1.is

pub returns-in-2 : goal.returns-in-2
returns-in-2 c = c.write_binary-in-2.ensures ∙ same_table c.args.t 2 (bits c.args.bytes.now ∷ take (8 * length c.args.bytes.now) (bits c.args.other.now) ∷ []) c.in-2.is

pub returns-in-3 : goal.returns-in-3
returns-in-3 c = c.write_binary-in-3.ensures ∙ same_table c.args.t 3 (bits c.args.bytes.now ∷ take (8 * length c.args.bytes.now) (bits c.args.other.now) ∷ []) c.in-3.is

pub returns-in-4 : goal.returns-in-4
returns-in-4 c = c.write_binary-in-4.ensures ∙ same_table c.args.t 4 (bits c.args.bytes.now ∷ take (8 * length c.args.bytes.now) (bits c.args.other.now) ∷ []) c.in-4.is

pub returns-in-5 : goal.returns-in-5
returns-in-5 c = c.write_binary-in-5.ensures ∙ same_table c.args.t 5 (bits c.args.bytes.now ∷ take (8 * length c.args.bytes.now) (bits c.args.other.now) ∷ []) c.in-5.is

pub returns-in-6 : goal.returns-in-6
returns-in-6 c = c.write_binary-in-6.ensures ∙ same_table c.args.t 6 (bits c.args.bytes.now ∷ take (8 * length c.args.bytes.now) (bits c.args.other.now) ∷ []) c.in-6.is

pub returns-in-7 : goal.returns-in-7
returns-in-7 c = c.write_binary-in-7.ensures ∙ same_table c.args.t 7 (bits c.args.bytes.now ∷ take (8 * length c.args.bytes.now) (bits c.args.other.now) ∷ []) c.in-7.is

pub returns-in-8 : goal.returns-in-8
returns-in-8 c = c.write_binary-in-8.ensures ∙ same_table c.args.t 8 (bits c.args.bytes.now ∷ take (8 * length c.args.bytes.now) (bits c.args.other.now) ∷ []) c.in-8.is

pub returns-in-9 : goal.returns-in-9
returns-in-9 c = c.write_binary-in-9.ensures ∙ same_table c.args.t 9 (bits c.args.bytes.now ∷ take (8 * length c.args.bytes.now) (bits c.args.other.now) ∷ []) c.in-9.is

pub returns-in-10 : goal.returns-in-10
returns-in-10 c = c.write_binary-in-10.ensures ∙ same_table c.args.t 10 (bits c.args.bytes.now ∷ take (8 * length c.args.bytes.now) (bits c.args.other.now) ∷ []) c.in-10.is

pub returns-in-11 : goal.returns-in-11
returns-in-11 c = c.write_binary-in-11.ensures ∙ same_table c.args.t 11 (bits c.args.bytes.now ∷ take (8 * length c.args.bytes.now) (bits c.args.other.now) ∷ []) c.in-11.is

pub returns-in-12 : goal.returns-in-12
returns-in-12 c = c.write_binary-in-12.ensures ∙ same_table c.args.t 12 (bits c.args.bytes.now ∷ take (8 * length c.args.bytes.now) (bits c.args.other.now) ∷ []) c.in-12.is

pub returns-in-13 : goal.returns-in-13
returns-in-13 c = c.write_binary-in-13.ensures ∙ same_table c.args.t 13 (bits c.args.bytes.now ∷ take (8 * length c.args.bytes.now) (bits c.args.other.now) ∷ []) c.in-13.is

pub returns-in-14 : goal.returns-in-14
returns-in-14 c = c.write_binary-in-14.ensures ∙ same_table c.args.t 14 (bits c.args.bytes.now ∷ take (8 * length c.args.bytes.now) (bits c.args.other.now) ∷ []) c.in-14.is

pub returns-in_default : goal.returns-in_default
returns-in_default c = c.write_binary-in_default.ensures ∙ same_table c.args.t 15 (bits c.args.bytes.now ∷ take (8 * length c.args.bytes.now) (bits c.args.other.now) ∷ []) (omega arith)
