use Rattle.std.proofs.Common.{◌∙◌}
use Rattle.arrow2_bits.proofs.WordIterators.{front_items, front_spill}
use Rattle.arrow2_bits.proofs.chunks_exact.BitChunksExact.new.Goals as goal

pub returns-clause-items : goal.returns-clause-items
returns-clause-items g c = c.new.ensures.items ∙ front_items c.args.bytes.now c.bytes_for.result c.args.len c.requires c.bytes_for.ensures

pub returns-clause-spill : goal.returns-clause-spill
returns-clause-spill g c = c.new.ensures.spill ∙ front_spill c.args.bytes.now g.T.NativeType.SIZE g.T.BitChunk.WIDTH c.bytes_for.result c.args.len g.met.T.BitChunk.size_law g.met.T.BitChunk.width_bounds.0 c.requires c.bytes_for.ensures
