-- Texts that are written.
use Rattle.std.proofs.Common.{List, ℕ, sym, subst}
use Rattle.std.specs.declared.fmt.Formatter.{Formatter}
use Rattle.std.specs.Fmt.{HasWritten, HasWrittenStyled, IsPlainFormatter, IsDefaultSpec}

-- a text that is written whatever the options is written with none
pub plain_written : {W : Type 0} (took : W → List ℕ → W → Type 0) (f g : Formatter W) (text : List ℕ) → IsPlainFormatter f → HasWrittenStyled took f text g → HasWritten took f text g
plain_written took f g text plain styled = record {
  wrote = styled.wrote;
  plain = record { bare = subst IsDefaultSpec (sym styled.spec) plain.bare; flush = styled.flush };
}
