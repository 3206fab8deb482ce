use Rattle.std.proofs.Common.{◌≡◌, ◌<◌, ◌++◌, All, flat_map}
use Rattle.arrow2_model.specs.Lists.{unnum, part}
use Rattle.arrow2_walks.specs.Selections.{selection}
use Rattle.arrow2_compute.proofs.filter.push_bits.Given as goal

abbrev pub invariant-loop-position : goal.invariant-loop-position
invariant-loop-position l = record {
  inside : All (λ position. position < 64) l.position-iterator;
  done : l.kept.items ++ flat_map (λ position. part (unnum 64 l.block) position 1) l.position-iterator ≡ l.fn.kept.items ++ selection (unnum 64 l.block) (unnum 64 l.word);
}
