use Rattle.std.proofs.Common.{None, ap, get_or, ◌∙◌, option_copied}
use Rattle.arrow2_text.specs.Binary.{binary_items}
use Rattle.arrow2_text.proofs.SlotItems.{copied-item}
use Rattle.arrow2_text.proofs.utf8.GenericByteArray+Utf8Type+O.get.Goals as goal

pub returns : goal.returns
returns g c =
    ap option_copied c.then_some.ensures
    ∙ copied-item c.value-value.result c.is_valid.result (get_or (binary_items c.args.self.now) c.args.index None) c.is_valid.ensures c.value-value.ensures.item
