use Rattle.std.proofs.Common.{◌∙◌, ℕ, ◌+◌, ◌≤◌, ◌++◌, length, ap}
use Rattle.arrow2.specs.Lists.{part}
use Rattle.arrow2.proofs.Runs.{left-all, left-done, part-between}
use Rattle.arrow2_uses.proofs.runs.valid_values.Goals as goal

-- the run that comes was the first one left, and its values are those that are appended
pub loop-start-preserved : goal.loop-start-preserved
loop-start-preserved c =
    let before = c.loop-start.invariant in let first = c.in-Some.ensures.steps.runs in let values = c.args.values.now in
    let is = c.in_ok-extend_from_slice.ensures.items ∙ ap (λ part. c.loop-start.valid.items ++ part) (part-between values c.in-Some.start c.in-Some.length) in
    record { inside = left-all (λ (run : ℕ × ℕ). run.0 + run.1 ≤ length values) first before.inside; done = left-done (λ (run : ℕ × ℕ). part values run.0 run.1) _ _ _ first is before.done }
