use Rattle.std.proofs.Common.{arith}
use Rattle.arrow2_bitmap.proofs.Same.{same_bytes_stated}
use Rattle.arrow2_bitmap.proofs.mutable.MutableBitmapPartialEq.eq.Goals as goal

pub returns-then-len-clause-equality : goal.returns-then-len-clause-equality
returns-then-len-clause-equality c =
    same_bytes_stated c.args.self.now.items c.args.other.now.items c.as_slice.result.now c.as_slice-then-len.result.now c.eq.result (omega (arith, c.len.ensures, c.len-2.ensures, c.if-len.true)) c.as_slice.ensures.bytes c.as_slice-then-len.ensures.bytes c.eq.ensures
