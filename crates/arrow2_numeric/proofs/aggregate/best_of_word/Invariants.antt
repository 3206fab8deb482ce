use Rattle.std.proofs.Common.{◌≡◌, flat_map}
use Rattle.arrow2_model.specs.Lists.{unnum, part}
use Rattle.arrow2_walks.specs.Selections.{selection}
use Rattle.arrow2_numeric.specs.Aggregates.{best_from}
use Rattle.arrow2_numeric.proofs.aggregate.best_of_word.Given as goal

abbrev pub invariant-loop-position : goal.invariant-loop-position
invariant-loop-position g l = best_from g.C.Choice.kept l.best (flat_map (λ position. part l.values position 1) l.position-iterator) ≡ best_from g.C.Choice.kept l.fn.best (selection l.values (unnum 64 l.word))
