use Rattle.std.proofs.Common.{◌≡◌, map, take}
use Rattle.arrow2_text.specs.Growth.{bytes_of_items}
use Rattle.arrow2_text.proofs.growing.total_bytes.Given as goal

abbrev pub invariant-loop-item : goal.invariant-loop-item
invariant-loop-item g l = l.total ≡ bytes_of_items (map g.S.AsItem.item (take l.item-index l.items))
