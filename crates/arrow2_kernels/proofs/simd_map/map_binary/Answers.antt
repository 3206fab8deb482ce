use Rattle.std.proofs.Common.{◌∙◌, ℕ, List, ap, take, length, arith, rules}
use Rattle.arrow2_model.specs.Lists.{bits}
use Rattle.arrow2_kernels.proofs.VectorWrites.{whole_written}
use Rattle.arrow2_kernels.proofs.LaneSteps.{length-results, first_results}
use Rattle.arrow2_kernels.proofs.simd_map.map_binary.Goals as goal

pub clear_padding-requires : goal.clear_padding-requires
clear_padding-requires c = record {
  exact = ap length c.as_mut_slice.ensures.value ∙ length-results c.args.t c.args.len c.bytes_for-count.result c.args.left.now c.args.right.now c.append_blocks.new.bytes.items c.requires.left c.bytes_for-count.ensures c.in_ok-append_blocks.ensures;
}

pub returns-clause-items : goal.returns-clause-items
returns-clause-items c =
    let v = c.append_blocks.new.bytes in
    let n = c.args.len in
    let whole = whole_written v.items c.clear_padding.new.bytes v.len (search rules) (omega (arith, c.clear_padding.auto.bytes, ap length c.as_mut_slice.ensures.value)) in
    ap (λ (b : List ℕ). take n (bits b)) whole
    ∙ (c.clear_padding.ensures.items ∙ (ap (λ (b : List ℕ). take n (bits b)) c.as_mut_slice.ensures.value
    ∙ first_results c.args.t n c.bytes_for-count.result c.args.left.now c.args.right.now v.items c.requires.left c.requires.right c.bytes_for-count.ensures c.in_ok-append_blocks.ensures))
