use Rattle.arrow2_bits.proofs.ZeroCounts.{ones_fetched}
use Rattle.arrow2_bits.proofs.counts.ones_in_block.Goals as goal

pub returns-clause-ones : goal.returns-clause-ones
returns-clause-ones c = ones_fetched c.args.stored.now.bytes c.fetch.result c.args.at 32 c.ones_of.result c.requires.inside c.fetch.ensures.fetched c.ones_of.ensures
