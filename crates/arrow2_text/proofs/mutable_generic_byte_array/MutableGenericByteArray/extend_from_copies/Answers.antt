use Rattle.std.proofs.Common.{◌*◌, length, replicate, [], ap, ◌∙◌, is_some}
use Rattle.std.specs.Option.{option_copied, option_map_or, unwrap_or}
use Rattle.arrow2_datatypes.specs.Types.{physical}
use Rattle.arrow2_text.proofs.AppendedItems.{appends-copies, copied-values}
use Rattle.arrow2_text.proofs.GrowingValues.{grown-values}
use Rattle.arrow2_text.proofs.mutable_generic_byte_array.MutableGenericByteArray.extend_from_copies.Goals as goal

pub returns : goal.returns
returns g c =
    let n = c.args.additional in
    let item = option_copied c.args.item in
    rw (← c.self.view_is) (appends-copies n item g.O.OffsetNumber.MAX c.self.inside.slots c.extend_constant.new.self (n * option_map_or length item 0) c.extend_constant.result c.extend_constant.ensures)

pub invariant_of-self : goal.invariant_of-self
invariant_of-self g c =
    let n = c.args.additional in
    let item = option_copied c.args.item in (
      ap physical c.extend_constant.ensures.data_type ∙ c.self.invariant.0,
      grown-values g.T.ByteArrayType.IsValue g.O.OffsetNumber.MAX c.self.inside.slots c.extend_constant.new.self (replicate n (unwrap_or item [])) (replicate n (is_some item)) (n * option_map_or length item 0) c.extend_constant.result c.extend_constant.ensures c.self.invariant.1 (copied-values g.T.ByteArrayType.IsValue g.T.ByteArrayType.no_bytes n item c.requires.known),
    )
