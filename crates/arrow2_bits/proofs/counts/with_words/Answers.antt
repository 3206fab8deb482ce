use Rattle.std.proofs.Common.{◌*◌}
use Rattle.arrow2_bits.proofs.ZeroCounts.{ones_with_words}
use Rattle.arrow2_bits.proofs.counts.with_words.Goals as goal

pub returns-clause-ones : goal.returns-clause-ones
returns-clause-ones g c = ones_with_words c.args.stored.now.bytes c.args.first c.args.counted.end (g.row.N * c.args.words) c.args.counted.ones c.ones_in_words.result c.requires.from c.requires.ones c.ones_in_words.ensures.ones
