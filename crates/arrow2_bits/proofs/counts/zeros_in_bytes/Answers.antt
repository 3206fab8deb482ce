use Rattle.std.proofs.Common.{◌≡◌, ℕ, ◌-◌, ◌*◌, List, ap, ◌∙◌, arith}
use Rattle.arrow2_model.specs.Lists.{bits, part, falses}
use Rattle.arrow2_bits.proofs.counts.zeros_in_bytes.Goals as goal

pub returns-clause-zeros : goal.returns-clause-zeros
returns-clause-zeros c =
    let first = c.args.first in
    let last = c.with_words-counted-6 in
    let kept = c.with_words-counted-5.ensures.bytes ∙ (c.with_words-counted-4.ensures.bytes ∙ (c.with_words-counted-3.ensures.bytes
    ∙ (c.with_words-counted-2.ensures.bytes ∙ (c.with_words-counted.ensures.bytes ∙ c.ones_in_blocks.ensures.bytes)))) in
    let end : last.result.end - first ≡ c.args.count = omega (arith, c.with_words-counted.ensures.end, c.with_words-counted-2.ensures.end, c.with_words-counted-3.ensures.end, c.with_words-counted-4.ensures.end, c.with_words-counted-5.ensures.end, last.ensures.end) in
    let same = ap (λ (l : List ℕ). falses (part (bits l) (8 * first) (8 * (last.result.end - first)))) kept in
    let all = ap (λ k. falses (part (bits c.args.stored.now.bytes) (8 * first) (8 * k))) end in
    omega (arith, last.ensures.ones, same, all, end)

pub returns-clause-reads : goal.returns-clause-reads
returns-clause-reads c = omega (arith, c.ones_in_blocks.ensures.reads, c.with_words-counted.ensures.reads, c.with_words-counted-2.ensures.reads, c.with_words-counted-3.ensures.reads, c.with_words-counted-4.ensures.reads, c.with_words-counted-5.ensures.reads, c.with_words-counted-6.ensures.reads)
