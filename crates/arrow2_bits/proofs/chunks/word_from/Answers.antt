use Rattle.std.proofs.Common.{◌+◌, ◌/◌, ◌%◌, arith}
use Rattle.arrow2_bits.proofs.WordLoads.{bit_of_part}
use Rattle.arrow2_bits.proofs.chunks.word_from.Goals as goal

pub returns : goal.returns
returns c =
    let offset = c.args.offset in let position = c.args.position in
    bit_of_part c.args.bytes.now c.padded_chunk_at.result (offset / 8 + position / 8 + (offset % 8 + position % 8) / 8) ((offset % 8 + position % 8) % 8) offset position c.padded_chunk_at.ensures.number (omega (arith, c.requires)) (omega arith)
