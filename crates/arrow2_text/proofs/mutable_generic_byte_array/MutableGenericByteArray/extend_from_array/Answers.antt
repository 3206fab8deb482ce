use Rattle.std.proofs.Common.{◌≡◌, ◌+◌, ◌≤◌, ℕ, length, sum, ap, sym, ◌∙◌, arith}
use Rattle.arrow2_model.specs.Lists.{buffer_items, part}
use Rattle.arrow2_model.proofs.Parts.{length-part}
use Rattle.arrow2_offset.specs.Offsets.{lengths_of}
use Rattle.arrow2_validity.specs.OptionalValidity.{valid_items}
use Rattle.arrow2_walks.specs.Zipped.{zipped}
use Rattle.arrow2_walks.proofs.Zipped.{part-zipped}
use Rattle.arrow2_text.specs.Binary.{BinaryParts, binary_items, binary_values}
use Rattle.arrow2_datatypes.specs.Types.{physical}
use Rattle.arrow2_text.proofs.GrowingValues.{grown-values, part-values}
use Rattle.arrow2_text.proofs.GrowthItems.{appends-items}
use Rattle.arrow2_text.proofs.mutable_generic_byte_array.MutableGenericByteArray.extend_from_array.Goals as goal

pub returns : goal.returns
returns g c =
    let b = c.slots-slots.result.now in
    let xs = binary_values b in
    let vs = valid_items b.validity in
    let k = c.args.start in
    let n = c.args.len in
    let counts = c.len.ensures in
    let count_of : BinaryParts → ℕ = λ a. length (binary_items a) in
    let same : length (binary_items b) ≡ length (binary_items c.args.array.now) = ap count_of c.slots-slots.ensures.value in
    let inside_valid : k + n ≤ length vs = omega (arith, counts.validity, counts.items, same, c.requires.inside) in
    let inside_values : k + n ≤ length xs = omega (arith, counts.values, counts.items, same, c.requires.inside) in
    let e : length (part vs k n) ≡ length (part xs k n) = length-part vs k n inside_valid ∙ sym (length-part xs k n inside_values) in
    let whole : part (binary_items b) k n ≡ zipped (part xs k n) (part vs k n) = part-zipped xs vs k n (sym counts.validity ∙ counts.values) in
    rw (← c.self.view_is, ← c.slots-slots.ensures.value, whole) (appends-items g.O.OffsetNumber.MAX c.self.inside.slots c.extend.new.self (part xs k n) (part vs k n) (sum (part (lengths_of (buffer_items b.offsets)) k n)) e c.extend.result c.extend.ensures)

pub invariant_of-self : goal.invariant_of-self
invariant_of-self g c =
    let b = c.slots-slots.result.now in
    let k = c.args.start in
    let n = c.args.len in (
      ap physical c.extend.ensures.data_type ∙ c.self.invariant.0,
      grown-values g.T.ByteArrayType.IsValue g.O.OffsetNumber.MAX c.self.inside.slots c.extend.new.self (part (binary_values b) k n) (part (valid_items b.validity) k n) (sum (part (lengths_of (buffer_items b.offsets)) k n)) c.extend.result c.extend.ensures c.self.invariant.1 (part-values g.T.ByteArrayType.IsValue (binary_values b) k n (g.T.ByteArrayType.each _ _ c.slots-slots.ensures.fits)),
    )
