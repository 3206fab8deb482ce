use Rattle.arrow2_validity.proofs.ValidItems.{length-items}
use Rattle.arrow2_validity.proofs.validity.Validity.new.Goals as goal

pub returns-clause-len : goal.returns-clause-len
returns-clause-len c = length-items c.args.len c.args.bitmap c.requires.same_length
