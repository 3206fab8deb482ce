use Rattle.std.proofs.Common.{◌≡◌, ◌+◌, ◌≤◌, ◌++◌, All, length, sum, flat_map}
use Rattle.arrow2_model.specs.Lists.{buffer_items, part, items_of}
use Rattle.arrow2_offset.specs.Offsets.{lengths_of}
use Rattle.arrow2_text.specs.Binary.{binary_items}
use Rattle.arrow2_walks.specs.Runs.{runs}
use Rattle.arrow2_compute.proofs.filter.selected_slots.Given as goal

abbrev pub invariant-loop-start : goal.invariant-loop-start
invariant-loop-start g l =
    let items = binary_items l.array in
    let lengths = lengths_of (buffer_items l.array.offsets) in
    record {
      inside : All (λ run. run.0 + run.1 ≤ length items) l.start-iterator.runs;
      done : l.kept.items ++ flat_map (λ run. part items run.0 run.1) l.start-iterator.runs ≡ flat_map (λ run. part items run.0 run.1) (runs (items_of l.mask));
      bytes : l.kept.bytes + sum (flat_map (λ run. part lengths run.0 run.1) l.start-iterator.runs) ≡ sum (flat_map (λ run. part lengths run.0 run.1) (runs (items_of l.mask)));
      data_type : l.kept.data_type ≡ l.array.data_type;
    }
