use Rattle.std.proofs.Common.{◌∙◌, ℕ, List, ap, length, take, arith, rules}
use Rattle.arrow2_model.specs.Lists.{bits}
use Rattle.arrow2_bits.proofs.WordIterators.{front_items}
use Rattle.arrow2_kernels.proofs.VectorWrites.{whole_written}
use Rattle.arrow2_packed_bits.proofs.packed_bits.cut.Goals as goal

pub returns-clause-items : goal.returns-clause-items
returns-clause-items c =
    let bytes = c.args.bytes.now.items in
    let n = c.args.len in
    let first : List ℕ → _ = λ (b : List ℕ). take n (bits b) in
    let whole = whole_written c.truncate.new.self.items c.clear_padding.new.bytes c.truncate.new.self.len (search rules) (omega (arith, c.clear_padding.auto.bytes, ap length c.as_mut_slice.ensures.value)) in
    ap first whole ∙ (c.clear_padding.ensures.items ∙ (ap first (c.as_mut_slice.ensures.value ∙ (c.truncate.ensures.items ∙ ap (λ m. take m bytes) c.bytes_for.ensures))
    ∙ front_items bytes _ n (omega arith) (omega arith)))
