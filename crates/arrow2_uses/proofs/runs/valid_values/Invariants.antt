use Rattle.std.proofs.Common.{◌≡◌, ◌+◌, ◌≤◌, ◌++◌, All, length, flat_map}
use Rattle.arrow2.specs.Lists.{part, items_of}
use Rattle.arrow2.specs.Runs.{runs}
use Rattle.arrow2_uses.proofs.runs.valid_values.Given as goal

abbrev pub invariant-loop-start : goal.invariant-loop-start
invariant-loop-start l = record {
  inside : All (λ run. run.0 + run.1 ≤ length l.values) l.start-iterator.runs;
  done : l.valid.items ++ flat_map (λ run. part l.values run.0 run.1) l.start-iterator.runs ≡ flat_map (λ run. part l.values run.0 run.1) (runs (items_of l.validity));
}
