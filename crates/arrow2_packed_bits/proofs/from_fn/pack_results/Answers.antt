use Rattle.std.proofs.Common.{◌≡◌, ℕ, ◌+◌, ◌*◌, ◌<◌, ◌/◌, ◌%◌, arith}
use Rattle.arrow2_packed_bits.proofs.WordsOfResults.{each-word}
use Rattle.arrow2_packed_bits.proofs.from_fn.pack_results.Goals as goal

pub loop-block-preserved : goal.loop-block-preserved
loop-block-preserved g c =
    let before = c.loop-block.invariant in
    let k = c.loop-block.block in
    let more : (j : ℕ) → j < 64 * (k + 1) → j < 64 * k + 64 = λ j h. omega (arith, h) in
    let wide = c.word_of-word.ensures in record {
      size = omega (arith, before.size, c.in_ok-extend_from_slice.ensures.len, c.to_ne_bytes.ensures.size);
      done = λ j h. each-word (λ i b. g.F.Fn.post c.args.f (i, tt) b) c.loop-block.bytes.items c.extend_from_slice.new.self.items c.to_ne_bytes.result c.block_of.result k 64 c.word_of-word.result before.size c.block_of.ensures.size wide c.to_ne_bytes.ensures.bits c.in_ok-extend_from_slice.ensures.items before.done c.block_of.ensures.results j (more j h);
    }

pub returns-clause-results : goal.returns-clause-results
returns-clause-results g c =
    let before = c.loop-block.invariant in
    let k = c.loop-block.block in
    let ended : k ≡ c.args.len / 64 = omega (arith, c.loop-block-test.false, c.loop-block.auto.block-end) in
    λ j h. each-word (λ i b. g.F.Fn.post c.args.f (i, tt) b) c.loop-block.bytes.items c.extend_from_slice-2.new.self.items c.to_ne_bytes-2.result c.block_of-2.result k (c.args.len % 64) c.word_of-last.result before.size c.block_of-2.ensures.size c.word_of-last.ensures c.to_ne_bytes-2.ensures.bits c.in_ok-extend_from_slice-2.ensures.items before.done (rw ended c.block_of-2.ensures.results) j (omega (arith, h, ended))
