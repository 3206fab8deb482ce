use Rattle.std.proofs.Common.{◌∙◌, ℕ, ◌-◌, ◌/◌, List, [], ◌∷◌, Bool, length, ap, take, arith}
use Rattle.arrow2_model.specs.Lists.{bits}
use Rattle.arrow2_model.specs.Tables.{each}
use Rattle.arrow2_model.proofs.Bytes.{part-bits-part}
use Rattle.arrow2_ffi.proofs.in_place.assign_two.Goals as goal

pub returns-then-second-eq0 : goal.returns-then-second-eq0
returns-then-second-eq0 c =
    let n : ℕ = c.args.len in
    let other : List ℕ = c.args.second.0.now in
    let at : ℕ = c.args.second.1 in
    let following = part-bits-part other (at / 8) (length other - at / 8) 0 n at (omega (arith, c.requires.second)) (omega (arith, c.requires.second, c.if-second-eq0.true)) (omega (arith, c.if-second-eq0.true)) in
    record {
      items = c.assign_binary.ensures.items ∙ ap (λ (items : List Bool). each c.args.t (take n (bits c.args.bytes.now) ∷ items ∷ [])) following;
      canonical = c.assign_binary.ensures.canonical;
    }
