use Rattle.arrow2_validity.proofs.ValidItems.{length-none}
use Rattle.arrow2_validity.proofs.validity.Validity.all_valid.Goals as goal

pub returns-clause-len : goal.returns-clause-len
returns-clause-len c = length-none c.args.len
