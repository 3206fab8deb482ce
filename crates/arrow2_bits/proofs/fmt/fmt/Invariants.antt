use Rattle.std.proofs.Common.{◌≡◌, ◌+◌, ◌-◌, ◌*◌, ◌<◌, ◌≤◌, ℕ, List}
use Rattle.std.specs.declared.fmt.Formatter.{Formatter}
use Rattle.std.specs.Fmt.{IsFlush, HasWrittenStyled}
use Rattle.arrow2_model.proofs.Shown.{shown_front}
use Rattle.arrow2_bits.proofs.fmt.fmt.Given as goal

-- the first j bytes are written, and each of them holds a shown bit; the other bits are left from the next byte's bit
-- `start` on
pub record IsFront {W : Type 0} (took : W → List ℕ → W → Type 0) (bytes : List ℕ) (offset len : ℕ) (old new : Formatter W) (j start left : ℕ) : Type 0 where
  pub position : start ≡ offset - 8 * j
  pub rest : left ≡ len - (8 * j - offset)
  pub each : j ≤ len
  pub last : 8 * j < offset + len + 8
  pub text : IsFlush old → HasWrittenStyled took old (shown_front bytes offset len j) new

abbrev pub invariant-loop-byte : goal.invariant-loop-byte
invariant-loop-byte g l = IsFront g.W.Write.write_str_gives l.bytes l.offset l.len l.fn.f l.f l.byte-index l.start l.left
