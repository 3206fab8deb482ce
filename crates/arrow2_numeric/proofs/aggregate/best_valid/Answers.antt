use Rattle.std.proofs.Common.{◌∙◌, ap, sym}
use Rattle.arrow2_model.specs.Lists.{unnum}
use Rattle.arrow2_numeric.specs.MaskedBlocks.{selected_left}
use Rattle.arrow2_walks.specs.Selections.{selection}
use Rattle.arrow2_numeric.specs.Aggregates.{best_from}
use Rattle.arrow2_numeric.proofs.Best.{best-append}
use Rattle.arrow2_numeric.proofs.aggregate.best_valid.Goals as goal

pub loop-block-preserved : goal.loop-block-preserved
loop-block-preserved g c =
    let f = g.C.Choice.kept in
    let step = c.in-Some.ensures.block in
    let block = selection c.in-Some.block.now (unnum 64 c.in-Some.word) in
    let left = selected_left c.next_block.new.self in
    ap (λ b. best_from f b left) c.best_of_word-best.ensures ∙ (sym (best-append f c.loop-block.best block left) ∙ (ap (best_from f c.loop-block.best) (sym step.selected) ∙ c.loop-block.invariant))
