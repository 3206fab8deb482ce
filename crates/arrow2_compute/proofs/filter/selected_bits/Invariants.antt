use Rattle.std.proofs.Common.{◌≡◌, ◌++◌, length}
use Rattle.arrow2_model.specs.Lists.{items_of}
use Rattle.arrow2_walks.specs.Selections.{selection}
use Rattle.arrow2_compute.proofs.filter.selected_bits.Given as goal

abbrev pub invariant-loop-word : goal.invariant-loop-word
invariant-loop-word l = record {
  same_length : length l.words.items ≡ length l.blocks.items;
  done : l.kept.items ++ selection l.blocks.items l.words.items ≡ selection (items_of l.bitmap) (items_of l.mask);
}
