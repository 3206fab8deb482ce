use Rattle.std.proofs.Common.{[], ◌∷◌, length, ap, refl, ◌∙◌, option_copied}
use Rattle.arrow2_datatypes.specs.Types.{physical}
use Rattle.arrow2_text.proofs.AppendedItems.{one-known, value-by_option}
use Rattle.arrow2_text.proofs.GrowingValues.{grown-values}
use Rattle.arrow2_text.proofs.mutable_generic_byte_array.MutableGenericByteArray.push_bytes.Goals as goal

pub invariant_of-self : goal.invariant_of-self
invariant_of-self g c =
    let value = c.unwrap_or.result.now in (
      ap physical c.push.ensures.data_type ∙ c.self.invariant.0,
      grown-values g.T.ByteArrayType.IsValue g.O.OffsetNumber.MAX c.self.inside.slots c.push.new.self (value ∷ []) (c.is_some-valid.result ∷ []) (length value) c.push.result c.push.ensures c.self.invariant.1 (one-known g.T.ByteArrayType.IsValue g.T.ByteArrayType.no_bytes (option_copied c.args.item) value (value-by_option c.args.item c.unwrap_or.result _ c.unwrap_or.ensures refl) c.requires.known),
    )
