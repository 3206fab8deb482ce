use Rattle.std.proofs.Common.{◌<◌, ℕ, [], length, ap, arith}
use Rattle.arrow2_text.specs.Binary.{BinaryParts, binary_items, binary_values}
use Rattle.arrow2_text.proofs.generic_byte_array.GenericByteArray.value_bytes.Goals as goal

pub returns-clause-known : goal.returns-clause-known
returns-clause-known g c =
    let count_of : BinaryParts → ℕ = λ a. length (binary_items a) in
    let same = ap count_of c.self.view_is in
    let below : c.args.index < length (binary_values c.self.inside.slots) = omega (arith, same, c.len.ensures.values, c.len.ensures.items, c.requires.below) in
    rw c.value.ensures.value (g.T.ByteArrayType.each _ _ c.self.invariant.1 c.args.index [] below)
