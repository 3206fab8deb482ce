-- The items of a bitmap that begin at a whole byte are the first bits of its bytes.
use Rattle.std.proofs.Common.{◌≡◌, ◌∙◌, ℕ, ◌+◌, ◌*◌, ◌≤◌, List, Bool, take, length, ap, sym, arith}
use Rattle.arrow2_model.specs.Lists.{bits, part}
use Rattle.arrow2_model.proofs.Bits.{length-bits}
use Rattle.arrow2_model.proofs.Parts.{length-part}

pub shown_items : (bytes : List ℕ) (items : List Bool) (offset n : ℕ) → offset ≡ 0 → part (bits bytes) offset n ≡ items → take n (bits bytes) ≡ items
shown_items bytes items offset n e is = ap (λ (o : ℕ). part (bits bytes) o n) (sym e) ∙ is

pub shown_length : (bytes : List ℕ) (items : List Bool) (offset n : ℕ) → offset + n ≤ 8 * length bytes → part (bits bytes) offset n ≡ items → length items ≡ n
shown_length bytes items offset n h is = let l = length-bits bytes in ap length (sym is) ∙ length-part (bits bytes) offset n (omega (arith, l))
