use Rattle.std.proofs.Common.{ap, refl, ◌∙◌, arith}
use Rattle.arrow2_text.proofs.AppendedItems.{bytes-below, bytes-by_option}
use Rattle.arrow2_text.proofs.growing.total_bytes.Goals as goal

pub returns-in_err-total-clause-none : goal.returns-in_err-total-clause-none
returns-in_err-total-clause-none g c =
    let items = c.args.items.now in
    let i = c.loop-item.item-index in
    let x = c.item-item.result in
    let all = bytes-below g.S.AsItem.item items i x c.loop-item-test.true in
    let size = bytes-by_option c.as_item.result c.unwrap_or-bytes.result _ _ (c.as_item.ensures.value ∙ ap g.S.AsItem.item c.item-item.is) c.unwrap_or-bytes.ensures refl in
    rw c.from_residual.ensures (omega (arith, all, size, c.loop-item.invariant, c.in_err-total.ensures))
