use Rattle.std.proofs.Common.{◌≡◌, ◌∙◌, ℕ, ◌+◌, ◌/◌, ap, sym, length, replicate, take, vec_len, arith}
use Rattle.arrow2_model.specs.Lists.{bits}
use Rattle.arrow2_packed_bits.proofs.Buffer.{length_items}
use Rattle.arrow2_packed_bits.proofs.ConstantBytes.{front_of_ones, front_of_zeros}
use Rattle.arrow2_packed_bits.proofs.packed_bits.PackedBits.fill.Goals as goal
use Rattle.arrow2_packed_bits.proofs.packed_bits.PackedBits.fill.Goals.{then-value, else-value}

pub returns-clause-items : goal.returns-clause-items
returns-clause-items c =
    let n : ℕ = c.self.inside.length in
    let old = c.self.inside.bytes in
    let filled = c.fill_bytes.new.bytes.items in
    let size : n ≡ length c.args.self.now.items = sym (length_items old.items n c.self.invariant) ∙ ap (λ m. length m.items) c.self.view_is in
    let whole : vec_len old ≡ (n + 7) / 8 = omega (arith, old.ok.0, c.self.invariant.exact) in
    let all : take n (bits filled) ≡ replicate n c.args.value = elim c.if-value.branch [
      | then-value w ↦ front_of_ones filled n (vec_len old) (c.fill_bytes.ensures.items ∙ ap (replicate (vec_len old)) w.fill_bytes-is) whole ∙ ap (replicate n) (sym w.if-value.true)
      | else-value w ↦ front_of_zeros filled n (vec_len old) (c.fill_bytes.ensures.items ∙ ap (replicate (vec_len old)) w.fill_bytes-is) whole ∙ ap (replicate n) (sym w.if-value.false)
    ] in
    c.cut.ensures.items ∙ (all ∙ ap (λ k. replicate k c.args.value) size)
