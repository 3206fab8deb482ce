use Rattle.std.proofs.Common.{None, ap, get_or, ◌∙◌, option_copied}
use Rattle.arrow2_text.specs.Binary.{binary_items}
use Rattle.arrow2_text.proofs.SlotItems.{copied-item, copied-known}
use Rattle.arrow2_text.proofs.generic_byte_array.GenericByteArray.get_bytes.Goals as goal

pub returns-clause-value : goal.returns-clause-value
returns-clause-value g c =
    let stated = c.value_bytes-value.ensures in
    ap option_copied c.then_some.ensures
    ∙ copied-item c.value_bytes-value.result c.is_valid.result (get_or (binary_items c.args.self.now) c.args.index None) c.is_valid.ensures stated.item

pub returns-clause-known : goal.returns-clause-known
returns-clause-known g c = copied-known g.T.ByteArrayType.IsValue c.value_bytes-value.result c.is_valid.result c.then_some.result c.then_some.ensures c.value_bytes-value.ensures.known
