use Rattle.std.proofs.Common.{◌∙◌, ◌++◌, ap}
use Rattle.arrow2_offset.proofs.mutable.Offsets.try_from_lengths.Goals as goal

pub returns-clause-ok : goal.returns-clause-ok
returns-clause-ok g c =
    let run = c.in_ok-extend_lengths.ensures.ok in
    let new = c.in_ok-offsets.ensures.ok in
    (run.0, run.1, run.2, (run.3.0 ∙ new.0, run.3.1 ∙ ap (λ t. t ++ run.0.items) new.1))
