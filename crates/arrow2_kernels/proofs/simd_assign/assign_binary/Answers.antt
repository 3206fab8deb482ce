use Rattle.std.proofs.Common.{◌∙◌, ◌*◌, List, Bool, [], ◌∷◌, ap, take, length, arith, take-take}
use Rattle.arrow2_model.specs.Lists.{bits}
use Rattle.arrow2_model.specs.Tables.{each}
use Rattle.arrow2_model.proofs.Bits.{length-bits}
use Rattle.arrow2_kernels.proofs.LaneSteps.{take-each}
use Rattle.arrow2_kernels.proofs.simd_assign.assign_binary.Goals as goal

pub returns-clause-items : goal.returns-clause-items
returns-clause-items c =
    let old = c.args.bytes.now in
    let other = c.args.other.now in
    let n = c.args.len in
    let m = length-bits old in
    let shorter = take-take n (8 * length old) (bits other) (omega (arith, c.requires.exact)) in
    c.clear_padding.ensures.items ∙ (ap (take n) c.write_by_table.ensures
    ∙ (take-each c.args.t n (bits old) (take (8 * length old) (bits other) ∷ []) (omega (arith, m, c.requires.exact)) ∙ ap (λ (items : List Bool). each c.args.t (take n (bits old) ∷ items ∷ [])) shorter))
