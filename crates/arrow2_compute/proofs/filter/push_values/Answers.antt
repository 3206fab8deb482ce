use Rattle.std.proofs.Common.{◌≡◌, ◌∙◌, ◌++◌, ap, rules, flat_map}
use Rattle.arrow2_model.specs.Lists.{unnum, part}
use Rattle.arrow2_chunk.specs.Ones.{ones}
use Rattle.arrow2_numeric.proofs.Selecting.{cut-ones}
use Rattle.arrow2_compute.proofs.filter.push_values.Goals as goal

pub loop-position-init : goal.loop-position-init
loop-position-init g c =
    let positions : c.into_iter-position-iterator.result ≡ ones (unnum 64 c.args.word) = search rules in
    ap (λ l. c.args.kept.now.items ++ flat_map (λ position. part c.args.values.now position 1) l) positions ∙ ap (λ l. c.args.kept.now.items ++ l) (cut-ones c.args.values.now (unnum 64 c.args.word))
