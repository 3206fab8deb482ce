use Rattle.std.proofs.Common.{arith, pos, ext_get_or}
use Rattle.arrow2_offset.proofs.widths.write_wide.Goals as goal

pub returns : goal.returns
returns c = ext_get_or (pos 0) c.loop-i.out c.args.numbers.now c.loop-i.invariant.exact (λ k h. c.loop-i.invariant.done k (omega (arith, h, c.loop-i.invariant.exact, c.requires.same_length, c.loop-i-test.false)))
