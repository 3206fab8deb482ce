use Rattle.std.proofs.Common.{◌∙◌}
use Rattle.std.proofs.lemmas.Result.{MatchResult-weaker}
use Rattle.arrow2_bitmap.proofs.immutable.Bitmap.try_from_iter.Goals as goal

-- the frozen bitmap has the items of the run of the one that grew
pub returns-clause-items : goal.returns-clause-items
returns-clause-items g c =
    let grown = c.in_ok-try_from_iter.ensures.items in
    let run = grown.2 in
    MatchResult-weaker c.try_from.result c.try_from.ensures (λ b e. (grown.0, grown.1, (run.0, run.1, run.2, e.0 ∙ run.3))) (λ e _. tt)
