use Rattle.std.proofs.Common.{◌≡◌, ◌++◌, flat_map}
use Rattle.arrow2_model.specs.Lists.{unnum, part}
use Rattle.arrow2_walks.specs.Selections.{selection}
use Rattle.arrow2_compute.proofs.filter.push_values.Given as goal

abbrev pub invariant-loop-position : goal.invariant-loop-position
invariant-loop-position g l = l.kept.items ++ flat_map (λ position. part l.values position 1) l.position-iterator ≡ l.fn.kept.items ++ selection l.values (unnum 64 l.word)
