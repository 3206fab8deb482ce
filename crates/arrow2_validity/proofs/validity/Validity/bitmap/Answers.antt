use Rattle.arrow2_validity.proofs.ValidItems.{known-bitmap}
use Rattle.arrow2_validity.proofs.validity.Validity.bitmap.Goals as goal

pub returns-clause-items : goal.returns-clause-items
returns-clause-items c = rw (← c.self.view_is) (known-bitmap c.self.inside.len c.self.inside.bitmap c.as_ref.result c.as_ref.ensures.value)
