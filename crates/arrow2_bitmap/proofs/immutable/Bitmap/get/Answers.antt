use Rattle.std.proofs.Common.{sym, false, arith}
use Rattle.std.proofs.lemmas.Option.{slice_get-get_or, slice_get_past}
use Rattle.arrow2_model.proofs.Cursors.{length-part_bits}
use Rattle.arrow2_bitmap.proofs.immutable.Bitmap.get.Goals as goal

pub returns-then-index-self : goal.returns-then-index-self
returns-then-index-self c =
    let b = c.self.inside in
    let l = length-part_bits b.bytes.value b.offset b.length c.self.invariant.0 in
    rw (c.get_bit.ensures, ← c.self.view_is) (sym (slice_get-get_or _ c.args.index false (omega (arith, l))))

pub returns-else-index-self : goal.returns-else-index-self
returns-else-index-self c =
    let b = c.self.inside in
    let l = length-part_bits b.bytes.value b.offset b.length c.self.invariant.0 in
    rw (← c.self.view_is) (sym (slice_get_past _ c.args.index (omega (arith, l))))
