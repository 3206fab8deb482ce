use Rattle.std.proofs.Common.{refl}
use Rattle.arrow2_text.proofs.growing.Growing.of_parts.Goals as goal

pub invariant_of-result : goal.invariant_of-result
invariant_of-result g c = (c.requires.start, c.requires.whole, c.requires.same_length)

pub returns : goal.returns
returns g c = record { values = refl; valid = refl; data_type = refl; bytes = refl }
