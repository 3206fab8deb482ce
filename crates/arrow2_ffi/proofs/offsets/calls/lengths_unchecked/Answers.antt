use Rattle.std.proofs.Common.{refl, map, arith}
use Rattle.std.proofs.lemmas.List.{length-map}
use Rattle.arrow2_ffi.proofs.OffsetCodes.{ill_fitting, written}
use Rattle.arrow2_ffi.proofs.offsets.calls.lengths_unchecked.Goals as goal

pub returns-then-offsets-lengths : goal.returns-then-offsets-lengths
returns-then-offsets-lengths g c = ill_fitting (map g.O.Number.value c.args.offsets.now) c.requires.valid (λ e. c.if-offsets-lengths.true (omega (arith, e))) refl

pub returns : goal.returns
returns g c =
    let valid = c.requires.valid in
    let some = valid.some in
    let m = length-map c.args.offsets.now g.O.Number.value in
    written (map g.O.Number.value c.args.offsets.now) valid (omega (arith, m, some, c.if-offsets-lengths.false)) c.write_lengths.ensures
