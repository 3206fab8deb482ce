use Rattle.std.proofs.Common.{◌∙◌, ℕ, List, Bool, [], ◌∷◌, ap, sym, take, length, arith}
use Rattle.arrow2_model.specs.Lists.{bits}
use Rattle.arrow2_model.specs.Tables.{each}
use Rattle.arrow2_kernels.proofs.VectorWrites.{whole_written}
use Rattle.arrow2_packed_bits.proofs.Buffer.{length_items}
use Rattle.arrow2_packed_bits.proofs.packed_bits.PackedBits.apply_binary_table.Goals as goal

pub returns-clause-items : goal.returns-clause-items
returns-clause-items c =
    let b = c.self.inside in
    let n : ℕ = b.length in
    let own : List Bool = take n (bits b.bytes.items) in
    let whole = whole_written b.bytes.items c.assign_binary.new.bytes b.bytes.len b.bytes.ok.0 (omega (arith, c.assign_binary.auto.bytes, c.as_mut_slice.ensures.len, b.bytes.ok.0)) in
    ap (λ (bytes : List ℕ). take n (bits bytes)) whole
    ∙ (c.assign_binary.ensures.items
    ∙ (ap (λ (bytes : List ℕ). each c.args.t (take n (bits bytes) ∷ take n (bits c.args.other.now) ∷ [])) c.as_mut_slice.ensures.value
    ∙ (ap (λ (k : ℕ). each c.args.t (own ∷ take k (bits c.args.other.now) ∷ [])) (sym (length_items b.bytes.items n c.self.invariant))
    ∙ ap (λ m. each c.args.t (m.items ∷ take (length m.items) (bits c.args.other.now) ∷ [])) c.self.view_is)))
