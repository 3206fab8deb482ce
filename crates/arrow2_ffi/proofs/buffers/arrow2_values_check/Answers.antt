use Rattle.std.proofs.Common.{◌≤◌, ◌+◌, ◌/◌, arith, le-div_iff_mul-le}
use Rattle.arrow2_ffi.proofs.buffers.arrow2_values_check.Goals as goal

pub returns-then-offset-length-clause-ok : goal.returns-then-offset-length-clause-ok
returns-then-offset-length-clause-ok c = (
  λ e. absurd (omega (arith, e)),
  λ h. let fits : c.args.offset + c.args.length ≤ c.args.bytes / c.args.width = (le-div_iff_mul-le (omega (arith, c.if-width-gt0.true))).1 h in
      absurd (omega (arith, fits, c.if-offset-length.true)),
)
