use Rattle.std.proofs.Common.{sym}
use Rattle.arrow2_numeric.proofs.comparison.fn.compare_pairs.try_from_fn.Goals as goal

pub returns : goal.returns
returns g c = record { left = _; right = _; is_left = sym c.index-left-index.is; is_right = sym c.index-right-index.is; returned = c.test.ensures }
