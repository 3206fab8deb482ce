use Rattle.std.proofs.Common.{map}
use Rattle.arrow2_ffi.proofs.TextCodes.{no_offsets}
use Rattle.arrow2_ffi.proofs.inside.check_texts.Goals as goal

pub returns-in-Err-Offsets : goal.returns-in-Err-Offsets
returns-in-Err-Offsets g c =
    let stated = rw c.in-Err-Offsets.field-0-is at c.in-Err-Offsets.ensures.broken in
    no_offsets c.check_inside-in-Err-Offsets.result (map g.O.Number.value c.args.offsets.now) c.args.values.now c.args.index.now c.check_inside-in-Err-Offsets.new.index c.check_inside-in-Err-Offsets.ensures stated.0
