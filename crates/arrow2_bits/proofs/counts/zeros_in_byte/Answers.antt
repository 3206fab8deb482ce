use Rattle.std.proofs.Common.{◌+◌, ◌*◌, arith}
use Rattle.arrow2_model.proofs.Touched.{touched-none}
use Rattle.arrow2_bits.proofs.ZeroCounts.{byte_zeros, touched_one}
use Rattle.arrow2_bits.proofs.counts.zeros_in_byte.Goals as goal

pub returns-then-len-eq0-clause-reads : goal.returns-then-len-eq0-clause-reads
returns-then-len-eq0-clause-reads c = let z = touched-none (8 * c.args.at + c.args.start) c.args.len (omega arith) in omega (arith, z)

pub overflow_sub-result : goal.overflow_sub-result
overflow_sub-result c =
    let z = byte_zeros c.args.stored.now.bytes c.fetch.result c.args.at c.args.start c.args.len c.from.result (c.requires.some (omega arith)) c.requires.within c.fetch.ensures.fetched c.from.ensures in
    omega (arith, z)

pub returns-clause-zeros : goal.returns-clause-zeros
returns-clause-zeros c =
    let z = byte_zeros c.args.stored.now.bytes c.fetch.result c.args.at c.args.start c.args.len c.from.result (c.requires.some (omega arith)) c.requires.within c.fetch.ensures.fetched c.from.ensures in
    omega (arith, z)

pub returns-clause-reads : goal.returns-clause-reads
returns-clause-reads c = let t = touched_one c.args.at c.args.start c.args.len (omega arith) c.requires.within in omega (arith, t, c.fetch.ensures.reads)
