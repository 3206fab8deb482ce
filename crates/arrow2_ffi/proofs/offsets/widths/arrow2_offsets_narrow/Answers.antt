use Rattle.std.proofs.Common.{refl, arith, map-id}
use Rattle.arrow2_ffi.specs.declared.codes.TheConstants.{ARROW2_OVERFLOW}
use Rattle.arrow2_ffi.proofs.OffsetCodes.{not_offsets_or, ill_fitting_or, beyond_or, written_or}
use Rattle.arrow2_ffi.proofs.offsets.widths.arrow2_offsets_narrow.Goals as goal

pub returns-in-Some : goal.returns-in-Some
returns-in-Some c = not_offsets_or ARROW2_OVERFLOW c.args.offsets.now c.in-Some.code (rw (map-id c.args.offsets.now) at c.in-Some.ensures.some) refl

pub returns-then-out-offsets : goal.returns-then-out-offsets
returns-then-out-offsets c =
    let are = rw (map-id c.args.offsets.now) at c.in_default.ensures.none in
    ill_fitting_or ARROW2_OVERFLOW c.args.offsets.now (λ e. omega (arith, e)) are.0 c.if-out-offsets.true refl

pub returns-then-last : goal.returns-then-last
returns-then-last c =
    let are = rw (map-id c.args.offsets.now) at c.in_default.ensures.none in
    let last = rw (map-id c.args.offsets.now) at c.last.ensures.value in
    beyond_or ARROW2_OVERFLOW c.args.offsets.now (λ e. omega (arith, e)) (λ e. omega (arith, e)) are.0 c.if-out-offsets.false (λ small. omega (arith, small, last, c.if-last.true)) refl

pub returns : goal.returns
returns c =
    let are = rw (map-id c.args.offsets.now) at c.in_default.ensures.none in
    let last = rw (map-id c.args.offsets.now) at c.last.ensures.value in
    written_or ARROW2_OVERFLOW c.args.offsets.now (λ e. omega (arith, e)) are.0 c.if-out-offsets.false (omega (arith, last, c.if-last.false)) c.write_narrow.ensures
