use Rattle.std.proofs.Common.{◌∙◌, ℕ, List, [], ◌∷◌, ap, take, arith, rules}
use Rattle.arrow2_model.specs.Lists.{bits}
use Rattle.arrow2_model.specs.Tables.{each}
use Rattle.arrow2_kernels.proofs.VectorWrites.{whole_written}
use Rattle.arrow2_kernels.proofs.LaneSteps.{front_bits}
use Rattle.arrow2_kernels.proofs.simd_map.map_unary.Goals as goal

pub returns-clause-items : goal.returns-clause-items
returns-clause-items c =
    let v = c.in_ok-bytes.bytes in
    let n = c.args.len in
    let whole = whole_written v.items c.assign_unary.new.bytes v.len (search rules) (omega (arith, c.assign_unary.auto.bytes, c.as_mut_slice.ensures.len)) in
    ap (λ (b : List ℕ). take n (bits b)) whole
    ∙ (c.assign_unary.ensures.items
    ∙ ap (λ b. each c.args.t (b ∷ [])) (ap (λ (b : List ℕ). take n (bits b)) c.as_mut_slice.ensures.value ∙ front_bits c.args.list.now v.items n c.bytes_for.result c.requires c.bytes_for.ensures c.in_ok-bytes.ensures.items))
