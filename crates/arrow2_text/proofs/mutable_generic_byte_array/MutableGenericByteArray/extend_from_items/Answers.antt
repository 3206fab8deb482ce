use Rattle.std.proofs.Common.{ap, map, ◌∙◌, is_some}
use Rattle.arrow2_datatypes.specs.Types.{physical}
use Rattle.arrow2_text.specs.Growth.{bytes_of_items, values_of_items}
use Rattle.arrow2_text.proofs.AppendedItems.{appends-given, known-values}
use Rattle.arrow2_text.proofs.GrowingValues.{grown-known}
use Rattle.arrow2_text.proofs.mutable_generic_byte_array.MutableGenericByteArray.extend_from_items.Goals as goal

pub returns : goal.returns
returns g c =
    let items = map g.S.AsItem.item c.args.items.now in
    rw (← c.self.view_is) (appends-given g.O.OffsetNumber.MAX c.self.inside.slots c.extend_from_items.new.self items (bytes_of_items items) c.extend_from_items.result c.extend_from_items.ensures.grown)

pub invariant_of-self : goal.invariant_of-self
invariant_of-self g c =
    let items = map g.S.AsItem.item c.args.items.now in (
      ap physical c.extend_from_items.ensures.grown.data_type ∙ c.self.invariant.0,
      grown-known g.T.ByteArrayType.IsValue g.O.OffsetNumber.MAX c.self.inside.slots c.extend_from_items.new.self (values_of_items items) (map is_some items) (bytes_of_items items) c.extend_from_items.result c.extend_from_items.ensures.grown c.self.invariant.1 (known-values g.T.ByteArrayType.IsValue g.T.ByteArrayType.no_bytes c.extend_from_items.result g.S.AsItem.item c.args.items.now c.extend_from_items.ensures.known),
    )
