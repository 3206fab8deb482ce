use Rattle.std.proofs.Common.{◌∷◌, [], ◌-◌}
use Rattle.std.specs.Fmt.{IsFlush, HasWrittenStyled}
use Rattle.arrow2_model.proofs.Shown.{shown_bits}
use Rattle.arrow2_bits.proofs.fmt.write_byte.Given as goal

abbrev pub invariant-loop-i : goal.invariant-loop-i
invariant-loop-i g l = IsFlush l.fn.f → HasWrittenStyled g.W.Write.write_str_gives l.fn.f (shown_bits (l.byte ∷ []) l.start l.len l.i (8 - l.i)) l.f
