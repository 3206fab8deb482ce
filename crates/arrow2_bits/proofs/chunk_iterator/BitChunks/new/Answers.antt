use Rattle.std.proofs.Common.{◌∙◌, ap, arith, length, ◌*◌, ◌/◌}
use Rattle.arrow2_model.specs.Lists.{bits}
use Rattle.arrow2_model.proofs.Bits.{length-bits}
use Rattle.arrow2_model.proofs.Parts.{length-part}
use Rattle.arrow2_bits.proofs.WordIterators.{slice_end, new_cursor, new_items, new_spill}
use Rattle.arrow2_bits.proofs.chunk_iterator.BitChunks.new.Goals as goal

pub invariant_of-result : goal.invariant_of-result
invariant_of-result g c =
    let size = ap (λ n. 8 * n) c.SIZE-size.ensures ∙ g.met.T.BitChunk.size_law in
    rw c.WIDTH.ensures (new_cursor c.args.bytes.now c.remainder_bytes-following.result.now _ c.SIZE-size.result g.T.BitChunk.WIDTH c.args.offset c.args.len _ size g.met.T.BitChunk.width_bounds.0 (omega arith) c.requires
    (slice_end c.args.bytes.now (c.args.offset / 8)) c.remainder_bytes-following.ensures.all c.remainder_bytes-following.ensures.following c.padded_chunk_at.ensures.number)

pub returns-clause-items : goal.returns-clause-items
returns-clause-items g c =
    let size = ap (λ n. 8 * n) c.SIZE-size.ensures ∙ g.met.T.BitChunk.size_law in
    rw c.WIDTH.ensures (new_items c.args.bytes.now _ c.SIZE-size.result g.T.BitChunk.WIDTH c.args.offset c.args.len size g.met.T.BitChunk.width_bounds.0 (omega arith) (slice_end c.args.bytes.now (c.args.offset / 8)))

pub returns-clause-spill : goal.returns-clause-spill
returns-clause-spill g c =
    let size = ap (λ n. 8 * n) c.SIZE-size.ensures ∙ g.met.T.BitChunk.size_law in
    rw (← c.SIZE-size.ensures) (new_spill c.args.bytes.now c.remainder_bytes-following.result.now _ c.SIZE-size.result g.T.BitChunk.WIDTH c.args.offset c.args.len _ size g.met.T.BitChunk.width_bounds.0
    (slice_end c.args.bytes.now (c.args.offset / 8)) c.remainder_bytes-following.ensures.all c.remainder_bytes-following.ensures.following c.padded_chunk_at.ensures.number)

pub returns-clause-count : goal.returns-clause-count
returns-clause-count g c = ap length (returns-clause-items g c) ∙ length-part (bits c.args.bytes.now) c.args.offset c.args.len (omega (arith, c.requires, length-bits c.args.bytes.now))
