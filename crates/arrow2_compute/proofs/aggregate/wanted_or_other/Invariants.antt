use Rattle.std.proofs.Common.{◌≡◌, All, take, Some}
use Rattle.arrow2_array.specs.Items.{boolean_items}
use Rattle.arrow2_compute.proofs.aggregate.wanted_or_other.Given as goal

abbrev pub invariant-loop-index : goal.invariant-loop-index
invariant-loop-index l = All (λ item. item ≡ Some l.wanted → ⊥) (take l.index (boolean_items l.fn.array))
