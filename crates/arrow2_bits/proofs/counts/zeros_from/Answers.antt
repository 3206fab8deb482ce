use Rattle.std.proofs.Common.{◌+◌, ◌-◌, ◌/◌, ◌%◌, ℕ, arith}
use Rattle.arrow2_bits.proofs.ZeroCounts.{zeros_in_three, touched_in_three}
use Rattle.arrow2_bits.proofs.counts.zeros_from.Goals as goal

pub returns-clause-zeros : goal.returns-clause-zeros
returns-clause-zeros c =
    let head : ℕ = (8 - c.args.start) % 8 in
    let whole : ℕ = c.args.first + c.div_ceil.result in
    let count : ℕ = (c.args.len - head) / 8 in
    let tail : ℕ = (c.args.len - head) % 8 in
    let kept = c.zeros_in_byte-zeros.ensures.bytes in
    let middle = rw kept at c.zeros_in_bytes.ensures.zeros in
    let last = rw (c.zeros_in_bytes.ensures.bytes, kept) at c.zeros_in_byte-2.ensures.zeros in
    zeros_in_three c.args.stored.now.bytes c.args.first c.args.start c.args.len head whole count tail _ _ _ (grind (arith, c.div_ceil.ensures)) (omega arith) c.zeros_in_byte-zeros.ensures.zeros middle last

pub returns-clause-reads : goal.returns-clause-reads
returns-clause-reads c =
    let head : ℕ = (8 - c.args.start) % 8 in
    let whole : ℕ = c.args.first + c.div_ceil.result in
    let count : ℕ = (c.args.len - head) / 8 in
    let tail : ℕ = (c.args.len - head) % 8 in
    let t = touched_in_three c.args.first c.args.start c.args.len head whole count tail c.requires.position (omega arith) (omega arith) (λ z. omega (arith, z)) (grind (arith, c.div_ceil.ensures)) (omega arith) (omega arith) in
    omega (arith, t, c.zeros_in_byte-zeros.ensures.reads, c.zeros_in_bytes.ensures.reads, c.zeros_in_byte-2.ensures.reads)
