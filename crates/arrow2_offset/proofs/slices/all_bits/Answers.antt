use Rattle.std.proofs.Common.{ℕ, List, get_or, arith, mul-le-mul_left}
use Rattle.std.proofs.lemmas.Nat.{le_or_l, le_or_r}
use Rattle.arrow2_offset.proofs.SliceSteps.{next_sum}
use Rattle.arrow2_offset.proofs.slices.all_bits.Goals as goal

pub loop-length-preserved : goal.loop-length-preserved
loop-length-preserved c =
    let k : ℕ = c.loop-length.length-index in
    let bits : ℕ = c.loop-length.bits in
    let ns : List ℕ = c.args.lengths.now in
    let next = next_sum 0 ns k in
    let more = mul-le-mul_left k (le_or_l bits (get_or ns k 0)) in
    let own = le_or_r bits (get_or ns k 0) in
    record { most = omega (arith, next, more, own, c.loop-length.invariant.most) }
