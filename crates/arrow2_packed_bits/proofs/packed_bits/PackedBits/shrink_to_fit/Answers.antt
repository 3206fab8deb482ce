use Rattle.std.proofs.Common.{◌≡◌, ap, length, arith}
use Rattle.arrow2_packed_bits.proofs.Buffer.{length_items}
use Rattle.arrow2_packed_bits.proofs.packed_bits.PackedBits.shrink_to_fit.Goals as goal

pub returns-clause-frees : goal.returns-clause-frees
returns-clause-frees c = λ none.
    let held = c.self.inside in
    let count = length_items held.bytes.items held.length c.self.invariant in
    let view = ap (λ b. length b.items) c.self.view_is in
    let empty = ap length none in
    let bytes : length held.bytes.items ≡ 0 = omega (arith, c.self.invariant.exact, count, view, empty) in
    let freed = c.shrink_to_fit.ensures.frees (omega (arith, bytes)) in
    omega (arith, freed)
