use Rattle.std.proofs.Common.{◌≡◌, ◌∙◌, ◌*◌, ◌/◌, ◌+◌, ◌-◌, List, Bool, ℕ, length, take, drop, ap, arith, subst, take_all, length-drop}
use Rattle.arrow2_packed_bits.specs.Growth.{Pushes}
use Rattle.arrow2_model.specs.Lists.{bits, part}
use Rattle.arrow2_model.proofs.Bytes.{part-bits-drop}
use Rattle.arrow2_packed_bits.proofs.packed_bits.PackedBits.push_part.Goals as goal

pub returns-then-offset-eq0 : goal.returns-then-offset-eq0
returns-then-offset-eq0 c =
    let slice : List ℕ = c.args.slice.now in
    let first : ℕ = c.args.offset / 8 in
    let following : take (length slice - first) (drop first slice) ≡ drop first slice = take_all (length slice - first) (drop first slice) (omega (arith, length-drop first slice)) in
    let start : 8 * first + 0 ≡ c.args.offset = omega (arith, c.if-offset-eq0.true) in
    let same = ap (λ (s : List ℕ). take c.args.count (bits s)) following ∙ (part-bits-drop slice first 0 c.args.count (omega (arith, c.requires.inside)) ∙ ap (λ a. part (bits slice) a c.args.count) start) in
    subst (λ (t : List Bool). Pushes c.push_front.result c.args.self.now c.push_front.new.self t) same c.push_front.ensures
