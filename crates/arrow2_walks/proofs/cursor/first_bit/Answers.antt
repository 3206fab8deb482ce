use Rattle.std.proofs.Common.{refl}
use Rattle.arrow2_walks.proofs.CursorSteps.{first_set, first_unset}
use Rattle.arrow2_walks.proofs.cursor.first_bit.Goals as goal

pub returns-then-value-clause-others : goal.returns-then-value-clause-others
returns-then-value-clause-others c = rw c.if-value.true (first_set c.args.word _ c.ranges.word.fits refl).1

pub returns-then-value-clause-there : goal.returns-then-value-clause-there
returns-then-value-clause-there c = rw c.if-value.true (first_set c.args.word _ c.ranges.word.fits refl).2

pub returns-clause-others : goal.returns-clause-others
returns-clause-others c = rw c.if-value.false (first_unset c.args.word _ c.ranges.word.fits c.trailing_ones.ensures).1

pub returns-clause-there : goal.returns-clause-there
returns-clause-there c = rw c.if-value.false (first_unset c.args.word _ c.ranges.word.fits c.trailing_ones.ensures).2
