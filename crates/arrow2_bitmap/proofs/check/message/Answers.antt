use Rattle.arrow2_bitmap.specs.Failures.{too_long}
use Rattle.arrow2_bitmap.proofs.check.message.Goals as goal

pub returns : goal.returns
unfolding too_long
returns c = rw (← c.saturating_mul-bits.ensures) c.format.ensures.ok
