use Rattle.std.proofs.Common.{◌≡◌, take, length, subst}
use Rattle.arrow2_model.specs.Lists.{unnum, WordCursor, rest}
use Rattle.arrow2_bits.proofs.WordIterators.{rest_of_word}
use Rattle.arrow2_bits.proofs.chunk_iterator.BitChunks.remainder.Goals as goal

pub returns-clause-rest : goal.returns-clause-rest
returns-clause-rest g c =
    let b = c.self.inside in
    let w = g.T.BitChunk.WIDTH in
    let x = g.T.BitChunk.number b.remainder in
    subst (λ (s : WordCursor). take (length (rest w s.items)) (unnum w x) ≡ rest w s.items) c.self.view_is (rest_of_word b.bytes.now w b.shift b.count b.remainder_len x c.self.invariant)
