use Rattle.std.proofs.Common.{rules}
use Rattle.arrow2_model.specs.Lists.{items_of}
use Rattle.arrow2_bitmap.proofs.Same.{same_stated}
use Rattle.arrow2_bitmap.proofs.immutable.BitmapPartialEq.eq.Goals as goal

pub returns-then-len-clause-equality : goal.returns-then-len-clause-equality
returns-then-len-clause-equality c = same_stated (items_of c.args.self.now) (items_of c.args.other.now) c.same_bits.result (search rules)
