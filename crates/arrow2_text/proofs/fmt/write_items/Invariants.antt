use Rattle.std.proofs.Common.{[], take, Some, codes}
use Rattle.std.specs.Fmt.{◌++?◌, IsPlainFormatter, debug_items}
use Rattle.arrow2_validity.specs.ItemTexts.{item_output}
use Rattle.arrow2_validity.proofs.ArrayTexts.{Shows}
use Rattle.arrow2_text.specs.Binary.{binary_items}
use Rattle.arrow2_text.proofs.fmt.write_items.Given as goal

abbrev pub invariant-loop-position : goal.invariant-loop-position
invariant-loop-position g l = IsPlainFormatter l.fn.f
    → Shows (item_output g.T.ByteArrayType.output) g.W.Write.write_str_gives l.fn.f (Some (codes "[") ++? debug_items (item_output g.T.ByteArrayType.output) [] (take l.position (binary_items l.array))) l.f
