use Rattle.std.proofs.Common.{◌∙◌, [], rules}
use Rattle.arrow2_kernels.proofs.LaneSteps.{block_written}
use Rattle.arrow2_kernels.proofs.simd_map.append_binary.Goals as goal

pub returns : goal.returns
returns c =
    let v = c.extend_from_slice.new.self in
    block_written c.args.t c.args.bytes.now.items c.args.left.now c.args.right.now c.write_by_table.new.bytes c.deref_mut.result.now v.items [] c.len-at.result v.len c.requires.same_lengths c.deref_mut.ensures.value
    c.in_ok-extend_from_slice.ensures.items (c.len-at.ensures ∙ search rules) (search rules) c.write_by_table.auto.bytes c.write_by_table.ensures
