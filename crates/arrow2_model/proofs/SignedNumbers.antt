-- The natural numbers of a signed type.
use Rattle.std.proofs.Common.{ℕ, ◌-◌, ◌^◌, ◌≤◌, arith, pos, FitsSigned, pow_pos}
use Rattle.std.specs.Int.{Width}
use mir.Val.{hbits}

pub fits_below : (w : Width) (n : ℕ) → FitsSigned w (pos n) → n ≤ 2 ^ hbits w - 1
fits_below w n f = let s = f.sfits in omega arith

pub below_fits : (w : Width) (n : ℕ) → n ≤ 2 ^ hbits w - 1 → FitsSigned w (pos n)
below_fits w n h = let p = pow_pos (hbits w) in record { sfits = omega arith }
