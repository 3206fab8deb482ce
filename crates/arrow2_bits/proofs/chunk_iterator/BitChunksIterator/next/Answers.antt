use Rattle.std.proofs.Common.{◌∙◌, ap, sym, refl, length, arith, ◌*◌, ◌-◌}
use Rattle.arrow2_model.specs.Lists.{full_words, rest}
use Rattle.arrow2_model.proofs.Words.{first_word-append, rest-whole}
use Rattle.arrow2_bits.proofs.WordIterators.{slice_end, cursor_ended, cursor_moves}
use Rattle.arrow2_bits.proofs.chunk_iterator.BitChunksIterator.next.Goals as goal

pub returns-then-self-eq0-clause-steps : goal.returns-then-self-eq0-clause-steps
returns-then-self-eq0-clause-steps g c =
    let b = c.self.inside in
    let w = g.T.BitChunk.WIDTH in
    let none = ap (λ s. full_words w s.items) (sym c.self.view_is) ∙ cursor_ended b.bytes.now w b.shift b.count b.remainder_len _ c.self.invariant c.if-self-eq0.true in
    record { word = (none, none); items = rest-whole w c.args.self.now.items (omega (arith, g.met.T.BitChunk.width_bounds.0)) none; rest = refl {a = rest w c.args.self.now.items}; spill = refl {a = c.args.self.now.spill} }

pub invariant_of-self : goal.invariant_of-self
invariant_of-self g c =
    let b = c.self.inside in
    let size = ap (λ n. 8 * n) c.SIZE.ensures ∙ g.met.T.BitChunk.size_law in
    (cursor_moves b.bytes.now _ c.SIZE.result g.T.BitChunk.WIDTH b.shift (b.count - 1) b.count b.remainder_len _ _ size g.met.T.BitChunk.width_bounds.0 c.self.invariant (omega arith) (slice_end b.bytes.now c.SIZE.result) c.chunk_at-word.ensures.fits c.chunk_at-word.ensures.bits).0

pub returns-clause-steps : goal.returns-clause-steps
returns-clause-steps g c =
    let b = c.self.inside in
    let w = g.T.BitChunk.WIDTH in
    let size = ap (λ n. 8 * n) c.SIZE.ensures ∙ g.met.T.BitChunk.size_law in
    let moves = cursor_moves b.bytes.now _ c.SIZE.result w b.shift (b.count - 1) b.count b.remainder_len _ _ size g.met.T.BitChunk.width_bounds.0 c.self.invariant (omega arith) (slice_end b.bytes.now c.SIZE.result) c.chunk_at-word.ensures.fits c.chunk_at-word.ensures.bits in
    let word = ap (λ s. full_words w s.items) (sym c.self.view_is) ∙ moves.1 in
    let following = moves.2 ∙ ap (λ s. rest w s.items) c.self.view_is in
    record {
      word = word;
      items = first_word-append w c.args.self.now.items _ _ (omega (arith, g.met.T.BitChunk.width_bounds.0)) word following;
      rest = following;
      spill = ap (λ s. s.spill) c.self.view_is;
    }

pub returns-clause-goes : goal.returns-clause-goes
returns-clause-goes g c = record { on = λ _. (tt, tt, omega (arith, ap length (returns-clause-steps g c).word)); keeps = tt; rests = λ _. tt }
