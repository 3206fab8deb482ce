use Rattle.std.proofs.Common.{◌≡◌, int_lt, count_by, take}
use Rattle.arrow2_uses.proofs.loops.count_below.Given as goal

abbrev pub invariant-loop-value : goal.invariant-loop-value
invariant-loop-value l = l.count ≡ count_by (λ value. int_lt value l.bound) (take l.value-index l.values)
