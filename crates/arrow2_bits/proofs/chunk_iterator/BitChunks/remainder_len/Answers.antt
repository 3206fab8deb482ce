use Rattle.std.proofs.Common.{◌∙◌, ap, sym, length, subst, ◌<◌, ◌^◌}
use Rattle.arrow2_model.specs.Lists.{WordCursor, rest}
use Rattle.arrow2_bits.proofs.WordIterators.{length_of_rest, cursor_fits}
use Rattle.arrow2_bits.proofs.chunk_iterator.BitChunks.remainder_len.Goals as goal

pub returns-clause-rest : goal.returns-clause-rest
returns-clause-rest g c =
    let b = c.self.inside in
    let w = g.T.BitChunk.WIDTH in
    sym (ap (λ s. length (rest w s.items)) (sym c.self.view_is) ∙ length_of_rest b.bytes.now w b.shift b.count b.remainder_len (g.T.BitChunk.number b.remainder) c.self.invariant)

pub returns-clause-fits : goal.returns-clause-fits
returns-clause-fits g c =
    let b = c.self.inside in
    subst (λ (s : WordCursor). length s.items < 2 ^ 64) c.self.view_is (cursor_fits b.bytes.now g.T.BitChunk.WIDTH b.shift b.count b.remainder_len (g.T.BitChunk.number b.remainder) c.self.invariant)
