use Rattle.std.proofs.Common.{refl}
use Rattle.arrow2_text.proofs.slots.Slots.new.Goals as goal

pub invariant_of-result : goal.invariant_of-result
invariant_of-result g c = (c.requires.inside, c.requires.same_length)

pub returns : goal.returns
returns g c = refl
