use Rattle.std.proofs.Common.{◌≡◌, ◌∙◌, ap, rules, flat_map}
use Rattle.arrow2_model.specs.Lists.{unnum, part}
use Rattle.arrow2_chunk.specs.Ones.{ones}
use Rattle.arrow2_numeric.specs.Aggregates.{best_from}
use Rattle.arrow2_numeric.proofs.Selecting.{cut-ones}
use Rattle.arrow2_numeric.proofs.aggregate.best_of_word.Goals as goal

pub loop-position-init : goal.loop-position-init
loop-position-init g c =
    let positions : c.into_iter-position-iterator.result ≡ ones (unnum 64 c.args.word) = search rules in
    ap (λ l. best_from g.C.Choice.kept c.args.best (flat_map (λ position. part c.args.values.now position 1) l)) positions ∙ ap (best_from g.C.Choice.kept c.args.best) (cut-ones c.args.values.now (unnum 64 c.args.word))
