use Rattle.std.proofs.Common.{length, arith}
use Rattle.arrow2_walks.specs.Cuts.{all_items}
use Rattle.arrow2_tests.proofs.ReadRows.{most_reads}
use Rattle.arrow2_tests.proofs.tests.counts.are_within_the_bound.Goals as goal

pub returns : goal.returns
returns c = most_reads (length (all_items c.args.pieces.now.pieces)) c.len.result c.args.pieces.now.reads c.requires.items (omega (arith, c.len.ensures.pieces, c.requires.pieces)) c.len.ensures.bound
