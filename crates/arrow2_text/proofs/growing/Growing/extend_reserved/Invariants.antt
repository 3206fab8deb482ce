use Rattle.std.proofs.Common.{All, map, take, IfSome, is_some}
use Rattle.arrow2_text.specs.Growth.{GrownBySlots, bytes_of_items, values_of_items}
use Rattle.arrow2_text.proofs.growing.Growing.extend_reserved.Given as goal

abbrev pub invariant-loop-item : goal.invariant-loop-item
invariant-loop-item g l =
    let items = map g.S.AsItem.item (take l.item-index l.items) in
    record {
      grown : GrownBySlots l.fn.self l.self (values_of_items items) (map is_some items) (bytes_of_items items);
      known : All (λ item. IfSome (g.S.AsItem.item item) g.T.ByteArrayType.IsValue) (take l.item-index l.items);
    }
