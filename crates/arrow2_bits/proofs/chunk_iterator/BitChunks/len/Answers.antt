use Rattle.std.proofs.Common.{◌∙◌, ap, sym, length}
use Rattle.arrow2_model.specs.Lists.{full_words}
use Rattle.arrow2_bits.proofs.WordIterators.{words_left}
use Rattle.arrow2_bits.proofs.chunk_iterator.BitChunks.len.Goals as goal

pub returns : goal.returns
returns g c =
    let b = c.self.inside in
    sym (ap (λ s. length (full_words g.T.BitChunk.WIDTH s.items)) (sym c.self.view_is) ∙ words_left b.bytes.now g.T.BitChunk.WIDTH b.shift b.count b.remainder_len _ c.self.invariant)
