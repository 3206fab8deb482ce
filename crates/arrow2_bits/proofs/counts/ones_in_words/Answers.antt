use Rattle.std.proofs.Common.{◌∙◌, ◌+◌, ◌*◌, ℕ, arith, rules}
use Rattle.arrow2_bits.proofs.ZeroCounts.{ones_fetched, ones_in_two}
use Rattle.arrow2_bits.proofs.counts.ones_in_words.Goals as goal

pub loop-i-preserved : goal.loop-i-preserved
loop-i-preserved g c =
    let before : ℕ = g.row.N * c.loop-i.i in
    let word = ones_fetched c.loop-i.stored.bytes c.fetch.result (c.args.first + before) g.row.N c.ones_count-ones.result (search rules) c.fetch.ensures.fetched (search rules) in
    record {
      bytes = c.fetch.ensures.bytes ∙ c.loop-i.invariant.bytes;
      reads = omega (arith, c.fetch.ensures.reads, c.loop-i.invariant.reads);
      counted = ones_in_two c.args.stored.now.bytes c.loop-i.stored.bytes c.args.first before g.row.N (g.row.N * (c.loop-i.i + 1)) c.loop-i.ones c.ones_count-ones.result c.loop-i.invariant.bytes (omega arith) c.loop-i.invariant.counted word;
    }
