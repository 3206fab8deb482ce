use Rattle.std.proofs.Common.{◌∙◌, ℕ, ◌-◌, ◌/◌, List, length, arith}
use Rattle.arrow2_model.proofs.Bytes.{part-bits-part}
use Rattle.arrow2_ffi.proofs.in_place.copy.Goals as goal

pub returns-then-bits-eq0 : goal.returns-then-bits-eq0
returns-then-bits-eq0 c =
    let n : ℕ = c.args.len in
    let bytes : List ℕ = c.args.bits.0.now in
    let at : ℕ = c.args.bits.1 in
    let following = part-bits-part bytes (at / 8) (length bytes - at / 8) 0 n at (omega (arith, c.requires.inside)) (omega (arith, c.requires.inside, c.if-bits-eq0.true)) (omega (arith, c.if-bits-eq0.true)) in
    record { items = c.copy_bytes.ensures.items ∙ following; canonical = c.copy_bytes.ensures.canonical }
