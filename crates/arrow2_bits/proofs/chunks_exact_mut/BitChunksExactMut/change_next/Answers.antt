use Rattle.std.proofs.Common.{rules, arith, ◌≡◌, length, ap, sym, ◌∙◌}
use Rattle.arrow2_model.specs.Lists.{part}
use Rattle.arrow2_bits.specs.ChunksMut.{next_len, past}
use Rattle.arrow2_bits.proofs.NextChunk.{left-past}
use Rattle.arrow2_bits.proofs.chunks_exact_mut.BitChunksExactMut.change_next.Goals as goal

pub returns-clause-written : goal.returns-clause-written
returns-clause-written g c =
    let cursor = c.args.self.now in
    let size : next_len cursor ≡ cursor.size = sym c.next_len.ensures.len ∙ c.next_len.ensures.full (omega arith) in
    let long : length c.change.new.arg2 ≡ cursor.size = c.change.auto.arg2 ∙ (c.lend_next.ensures.len ∙ size) in
    (c.change.new.arg2, rw (← (c.lend_next.ensures.chunk ∙ ap (part cursor.bytes cursor.at) size)) (search rules), long, ap (λ n. past cursor n c.change.new.arg2) size)

pub returns-clause-left : goal.returns-clause-left
returns-clause-left g c =
    let cursor = c.args.self.now in
    let size : next_len cursor ≡ cursor.size = sym c.next_len.ensures.len ∙ c.next_len.ensures.full (omega arith) in
    let long : length c.change.new.arg2 ≡ cursor.size = c.change.auto.arg2 ∙ (c.lend_next.ensures.len ∙ size) in
    rw size (left-past cursor c.change.new.arg2 long (omega (arith, size, c.next_len.ensures.len)) (omega (arith, size, c.next_len.ensures.len, c.next_len.ensures.inside)))
