use Rattle.std.proofs.Common.{arith, ◌≡◌, ◌-◌, ℕ, List, take, drop, length, ap, sym, ◌∙◌}
use Rattle.arrow2_bits.specs.ChunksMut.{ChunkCursorMut}
use Rattle.arrow2_bits.proofs.NextChunk.{one-fewer}
use Rattle.arrow2_bits.proofs.chunks_exact_mut.BitChunksExactMutIterator.next.Goals as goal

pub returns-clause-steps : goal.returns-clause-steps
returns-clause-steps g c =
    let cursor = c.self.inside in
    let ahead : c.split_at_mut-ahead.result.1.now ≡ drop cursor.at cursor.bytes.now = c.split_at_mut-ahead.ensures.back ∙ ap (λ bytes. drop cursor.at bytes.now) c.take.ensures.value in
    let following : c.split_at_mut-chunk.result.1.now ≡ drop cursor.size (drop cursor.at cursor.bytes.now) = c.split_at_mut-chunk.ensures.back ∙ ap (drop cursor.size) ahead in
    let left : c.ahead.result ≡ length cursor.bytes.now - cursor.at = c.ahead.ensures ∙ ap (λ w. length w.bytes - w.at) (sym c.self.view_is) in
    let fewer = one-fewer cursor.size (length cursor.bytes.now - cursor.at) (length c.split_at_mut-chunk.result.1.now - 0) (omega (arith, c.self.invariant)) (omega (arith, left, c.if-ahead-self.false))
    (omega (arith, c.split_at_mut-chunk.ensures.back_len, c.split_at_mut-ahead.ensures.back_len, ap (λ bytes. length bytes.now) c.take.ensures.value)) in
    let after : List ℕ → ChunkCursorMut = λ items. record { bytes = items; at = 0; size = cursor.size; remainder = cursor.remainder.now; remainder_len = cursor.remainder_len } in
    rw (← c.self.view_is) (c.split_at_mut-chunk.ensures.front ∙ ap (take cursor.size) ahead, fewer, ap after following)
