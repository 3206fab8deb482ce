use Rattle.std.proofs.Common.{◌∙◌, ap, arith, ◌/◌, ◌%◌}
use Rattle.arrow2_model.specs.Lists.{bits, part}
use Rattle.arrow2_model.proofs.Bytes.{part-bits-drop}
use Rattle.arrow2_bits.proofs.WordIterators.{slice_end}
use Rattle.arrow2_bits.proofs.iterator.BitmapIter.new.Goals as goal

pub returns-then-len : goal.returns-then-len
returns-then-len c =
    let bytes = c.args.bytes.now in let offset = c.args.offset in
    c.within.ensures ∙ (rw (slice_end bytes (offset / 8)) (part-bits-drop bytes (offset / 8) (offset % 8) c.args.len (omega (arith, c.requires)) ∙ ap (λ a. part (bits bytes) a c.args.len) (omega arith)))
