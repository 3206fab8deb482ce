use Rattle.std.proofs.Common.{◌∙◌, ap, sym, arith, ◌*◌, take, drop, ◌-◌, ◌+◌}
use Rattle.arrow2_model.specs.Lists.{bits}
use Rattle.arrow2_bits.proofs.WordLoads.{low_word, merged_word}
use Rattle.arrow2_bits.proofs.chunks.chunk_at.Goals as goal

pub returns-then-shift-eq0-clause-bits : goal.returns-then-shift-eq0-clause-bits
returns-then-shift-eq0-clause-bits g c =
    let w = g.T.BitChunk.WIDTH in
    let bytes = c.args.bytes.now in
    let size = ap (λ n. 8 * n) c.SIZE.ensures ∙ g.met.T.BitChunk.size_law in
    rw c.if-shift-eq0.true (low_word bytes c.SIZE.result w _ size (omega (arith, size)) c.from_ne_slice-low.ensures.bits)

pub returns-clause-bits : goal.returns-clause-bits
returns-clause-bits g c =
    let w = g.T.BitChunk.WIDTH in
    let bytes = c.args.bytes.now in
    let size = ap (λ n. 8 * n) c.SIZE.ensures ∙ g.met.T.BitChunk.size_law in
    let again = c.SIZE-2.ensures ∙ sym c.SIZE.ensures in
    merged_word bytes c.SIZE.result w c.args.shift _ _ _ _ _ size g.met.T.BitChunk.width_bounds.0 c.requires.position c.requires.within (omega (arith, size))
    c.from_ne_slice-low.ensures.bits (c.from_ne_slice-high.ensures.bits ∙ ap (λ n. bits (take (1 + n - 1) (drop 1 bytes))) again)
    c.down.ensures.bits c.up.ensures.bits c.bit_or.ensures.bits
