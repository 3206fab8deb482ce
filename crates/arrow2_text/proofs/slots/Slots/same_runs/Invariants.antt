use Rattle.std.proofs.Common.{◌≡◌, ◌↔◌, ◌+◌, ◌≤◌, All, flat_map, length}
use Rattle.arrow2_model.specs.Lists.{part, items_of}
use Rattle.arrow2_walks.specs.Zipped.{zipped}
use Rattle.arrow2_text.specs.Binary.{binary_values}
use Rattle.arrow2_text.proofs.slots.Slots.same_runs.Given as goal

abbrev pub invariant-loop-start : goal.invariant-loop-start
invariant-loop-start g l =
    let mine = binary_values l.self in
    let others = binary_values l.other in
    let valid = items_of l.valid in
    record {
      inside : All (λ run. run.0 + run.1 ≤ length valid) l.start-iterator.runs;
      same : (flat_map (λ run. part mine run.0 run.1) l.start-iterator.runs ≡ flat_map (λ run. part others run.0 run.1) l.start-iterator.runs) ↔ (zipped mine valid ≡ zipped others valid);
    }
