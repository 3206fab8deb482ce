use Rattle.std.proofs.Common.{◌++◌, take, codes}
use Rattle.std.specs.Fmt.{HasWrittenStyled, IsFlush}
use Rattle.arrow2_array.specs.ArrayTexts.{comma_list}
use Rattle.arrow2_array.specs.Items.{boolean_items}
use Rattle.arrow2_array.proofs.fmt.write_array.Given as goal

abbrev pub invariant-loop-index : goal.invariant-loop-index
invariant-loop-index g l = IsFlush l.fn.f → HasWrittenStyled g.W.Write.write_str_gives l.fn.f (codes "BooleanArray[" ++ comma_list (take l.index (boolean_items l.array))) l.f
