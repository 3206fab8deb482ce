use Rattle.arrow2.proofs.Keys.{selected-in_bounds}
use Rattle.arrow2_uses.proofs.dictionary.Dictionary.filter.Goals as goal

pub invariant_of-result : goal.invariant_of-result
invariant_of-result c = rw c.in_ok-texts.ensures.cases (selected-in_bounds _ _ _ _ _ c.in_ok-keys.ensures.items c.self.invariant)
