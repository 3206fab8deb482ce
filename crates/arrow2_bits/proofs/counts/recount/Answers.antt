use Rattle.std.proofs.Common.{◌≡◌, ◌∙◌, ◌+◌, ◌-◌, ℕ, List, ap, refl, arith}
use Rattle.arrow2_model.specs.Lists.{bits, part, falses}
use Rattle.arrow2_model.proofs.Touched.{slice_reads-all, slice_reads-short, slice_reads-long, slice_reads_le}
use Rattle.arrow2_bits.proofs.ZeroCounts.{zeros_between}
use Rattle.arrow2_bits.proofs.counts.recount.Goals as goal
use Rattle.arrow2_bits.proofs.counts.recount.Goals.{After-zeros_after-tail}

pub returns-then-count-len-clause-reads : goal.returns-then-count-len-clause-reads
returns-then-count-len-clause-reads c =
    let all = slice_reads-all c.args.offset c.args.len c.args.start c.args.count c.if-count-len.true in
    omega (arith, all)

pub returns-then-count-len-2-clause-reads : goal.returns-then-count-len-2-clause-reads
returns-then-count-len-2-clause-reads c =
    let short = slice_reads-short c.args.offset c.args.len c.args.start c.args.count c.if-count-len.false c.if-count-len-2.true in
    omega (arith, short, c.zeros_after.ensures.reads)

pub returns-then-count-len-2-clause-bound : goal.returns-then-count-len-2-clause-bound
returns-then-count-len-2-clause-bound c =
    let most = slice_reads_le c.args.offset c.args.len c.args.start c.args.count c.requires.among in
    omega (arith, returns-then-count-len-2-clause-reads c, most)

-- those among the bits, and those before and after them, are all that are not set
together : (c : After-zeros_after-tail) → falses (part (bits c.args.stored.now.bytes) (c.args.offset + c.args.start) c.args.count) + (c.count_zeros_counted-head.result + c.zeros_after-tail.result) ≡ c.args.unset
together c =
    let end : ℕ = c.args.start + c.args.count in
    let tail = c.zeros_after-tail.ensures.zeros ∙ ap (λ (b : List ℕ). falses (part (bits b) (c.args.offset + end) (c.args.len - end))) c.count_zeros_counted-head.ensures.bytes in
    zeros_between c.args.stored.now.bytes c.args.offset c.args.len c.args.start c.args.count c.args.unset _ _ c.requires.among c.requires.unset c.count_zeros_counted-head.ensures.zeros tail

pub overflow_sub-result : goal.overflow_sub-result
overflow_sub-result c = omega (arith, together c)

pub returns-clause-zeros : goal.returns-clause-zeros
returns-clause-zeros c = omega (arith, together c)

pub returns-clause-reads : goal.returns-clause-reads
returns-clause-reads c =
    let long = slice_reads-long c.args.offset c.args.len c.args.start c.args.count (c.args.start + c.args.count) (c.args.len - (c.args.start + c.args.count)) c.if-count-len.false (omega arith) refl refl in
    omega (arith, long, c.count_zeros_counted-head.ensures.reads, c.zeros_after-tail.ensures.reads)

pub returns-clause-bound : goal.returns-clause-bound
returns-clause-bound c =
    let most = slice_reads_le c.args.offset c.args.len c.args.start c.args.count c.requires.among in
    omega (arith, returns-clause-reads c, most)
