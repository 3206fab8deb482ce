use Rattle.arrow2_bits.proofs.WordLoads.{loaded_number, padded_number}
use Rattle.arrow2_bits.proofs.chunks.padded_chunk_at.Goals as goal

pub returns-then-bytes-SIZE-clause-number : goal.returns-then-bytes-SIZE-clause-number
returns-then-bytes-SIZE-clause-number g c = loaded_number g.T.BitChunk.WIDTH _ _ c.chunk_at.ensures.fits c.chunk_at.ensures.bits

pub returns-clause-number : goal.returns-clause-number
returns-clause-number g c = padded_number c.args.bytes.now c.copy_from_slice.new.self g.T.BitChunk.WIDTH _ c.args.shift c.chunk_at-2.ensures.fits c.copy_from_slice.ensures.after c.chunk_at-2.ensures.bits
