use Rattle.std.proofs.Common.{◌∙◌, ◌%◌, ◌/◌, ap, set, take, length, refl, arith}
use Rattle.std.proofs.lemmas.Grind.{get_or_default_zero}
use Rattle.arrow2_model.specs.Lists.{bits, unnum}
use Rattle.arrow2_packed_bits.proofs.Buffer.{length_items, bit_written}
use Rattle.arrow2_packed_bits.proofs.WordPushes.{Hold}
use Rattle.arrow2_packed_bits.proofs.packed_bits.PackedBits.set.Goals as goal

written : (c : goal.After-self-1) → Hold (set c.self.inside.bytes.items (c.args.index / 8) c.set.result) c.self.inside.length (set (take c.self.inside.length (bits c.self.inside.bytes.items)) c.args.index c.args.value)
written c =
    let b = c.self.inside in
    let size = length_items b.bytes.items b.length c.self.invariant in
    let seen = ap (λ m. length m.items) c.self.view_is in
    let byte = c.index_mut-byte.ensures.value ∙ get_or_default_zero b.bytes.items (c.args.index / 8) c.index_mut-byte.result.now (omega (arith, size, seen, c.requires, c.self.invariant.exact)) in
    bit_written b.bytes.items _ b.length c.args.index c.set.result c.args.value c.self.invariant (omega (arith, size, seen, c.requires)) refl c.set.type_inv (c.set.ensures ∙ ap (λ x. set (unnum 8 x) (c.args.index % 8) c.args.value) byte)

pub invariant_of-self : goal.invariant_of-self
invariant_of-self c = (written c).0

pub returns-clause-items : goal.returns-clause-items
returns-clause-items c = (written c).1 ∙ ap (λ m. set m.items c.args.index c.args.value) c.self.view_is
