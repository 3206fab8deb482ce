use Rattle.std.proofs.Common.{◌∙◌, ap, length, ◌+◌, ◌-◌, ◌/◌, ◌%◌, arith}
use Rattle.arrow2_model.specs.Lists.{bits, part, items_of}
use Rattle.arrow2_model.proofs.Bytes.{part-bits-part}
use Rattle.arrow2_bitmap.proofs.immutable.Bitmap.as_slice.Goals as goal

pub returns-clause-items : goal.returns-clause-items
returns-clause-items c =
    let b = c.self.inside in
    let bytes = c.as_slice.result.now in
    let start = b.offset / 8 in
    let all = c.as_slice.ensures ∙ c.deref.ensures in
    part-bits-part bytes start (start + c.bytes_for-count.result - start) (b.offset % 8) b.length b.offset (omega (arith, c.bytes_for-count.ensures, c.self.invariant.0, ap length all)) (omega (arith, c.bytes_for-count.ensures)) (omega arith)
    ∙ (ap (λ s. part (bits s) b.offset b.length) all ∙ ap items_of c.self.view_is)
