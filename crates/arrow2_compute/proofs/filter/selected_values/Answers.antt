use Rattle.std.proofs.Common.{◌∙◌, ◌++◌, ap, sym, append_assoc}
use Rattle.arrow2_model.specs.Lists.{unnum}
use Rattle.arrow2_numeric.specs.MaskedBlocks.{selected_left}
use Rattle.arrow2_walks.specs.Selections.{selection}
use Rattle.arrow2_compute.proofs.filter.selected_values.Goals as goal

pub loop-block-preserved : goal.loop-block-preserved
loop-block-preserved g c =
    let kept = c.loop-block.kept.items in
    let block = selection c.in-Some.block.now (unnum 64 c.in-Some.word) in
    let left = selected_left c.next_block.new.self in
    ap (λ l. l ++ left) c.in_ok-push_values.ensures ∙ (append_assoc kept block left ∙ (ap (λ l. kept ++ l) (sym c.in-Some.ensures.block.selected) ∙ c.loop-block.invariant))
