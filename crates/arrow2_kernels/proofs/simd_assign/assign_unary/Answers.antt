use Rattle.std.proofs.Common.{◌∙◌, [], ap, take, arith}
use Rattle.arrow2_model.specs.Lists.{bits}
use Rattle.arrow2_model.proofs.Bits.{length-bits}
use Rattle.arrow2_kernels.proofs.LaneSteps.{take-each}
use Rattle.arrow2_kernels.proofs.simd_assign.assign_unary.Goals as goal

pub returns-clause-items : goal.returns-clause-items
returns-clause-items c =
    let old = c.args.bytes.now in
    let m = length-bits old in
    c.clear_padding.ensures.items ∙ (ap (take c.args.len) c.write_by_unary_table.ensures
    ∙ take-each c.args.t c.args.len (bits old) [] (omega (arith, m, c.requires.exact)))
