use Rattle.std.proofs.Common.{refl, map}
use Rattle.arrow2_ffi.specs.declared.codes.TheConstants.{ARROW2_RANGE}
use Rattle.arrow2_ffi.proofs.OffsetCodes.{not_offsets_or}
use Rattle.arrow2_ffi.proofs.offsets.calls.rebase.Goals as goal

pub returns-in-Some : goal.returns-in-Some
returns-in-Some g c = not_offsets_or ARROW2_RANGE (map g.O.Number.value c.args.offsets.now) c.in-Some.code c.in-Some.ensures.some refl
