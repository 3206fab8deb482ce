use Rattle.std.proofs.Common.{ap, ◌∙◌}
use Rattle.arrow2_text.proofs.AppendedItems.{capacity-more}
use Rattle.arrow2_text.proofs.growing.Growing.extend_reserved.Goals as goal

pub push_reserved-requires : goal.push_reserved-requires
push_reserved-requires g c = record {
  spare = capacity-more g.S.AsItem.item c.args.items.now c.loop-item.item-index c.item-item.result c.loop-item-test.true g.O.OffsetNumber.MAX c.args.self.now c.loop-item.self _ (c.as_item.ensures.value ∙ ap g.S.AsItem.item c.item-item.is) c.requires.spare c.loop-item.invariant.grown;
}
