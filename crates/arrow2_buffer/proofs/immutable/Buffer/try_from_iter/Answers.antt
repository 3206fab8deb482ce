use Rattle.std.proofs.Common.{ap, ◌∙◌}
use Rattle.std.proofs.lemmas.Result.{MatchResult-weaker}
use Rattle.arrow2_model.specs.Lists.{whole_buffer}
use Rattle.arrow2_buffer.proofs.immutable.Buffer.try_from_iter.Goals as goal

-- the collected items are the iterator's whole run
pub returns-clause-items : goal.returns-clause-items
returns-clause-items g c =
    let ran = c.in_ok-items.ensures in
    MatchResult-weaker c.try_from.result c.try_from.ensures (λ b e. (c.into_iter.result, c.into_iter.ensures.into_iter_gives, (ran.0, ran.1, ran.2, e ∙ ap whole_buffer ran.3))) (λ e _. tt)
