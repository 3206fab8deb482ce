use Rattle.std.proofs.Common.{refl, map-id}
use Rattle.arrow2_ffi.proofs.OffsetCodes.{not_offsets, ill_fitting, written}
use Rattle.arrow2_ffi.proofs.offsets.widths.arrow2_offsets_widen.Goals as goal

pub returns-in-Some : goal.returns-in-Some
returns-in-Some c = not_offsets c.args.offsets.now c.in-Some.code (rw (map-id c.args.offsets.now) at c.in-Some.ensures.some) refl

pub returns-then-out-offsets : goal.returns-then-out-offsets
returns-then-out-offsets c =
    let are = rw (map-id c.args.offsets.now) at c.in_default.ensures.none in
    ill_fitting c.args.offsets.now are.0 c.if-out-offsets.true refl

pub returns : goal.returns
returns c =
    let are = rw (map-id c.args.offsets.now) at c.in_default.ensures.none in
    written c.args.offsets.now are.0 c.if-out-offsets.false c.write_wide.ensures
