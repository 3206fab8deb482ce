use Rattle.std.proofs.Common.{All, take, pos, ◌<ℤ◌}
use Rattle.arrow2_uses.proofs.generic.all_below.Given as goal

abbrev pub invariant-loop-index : goal.invariant-loop-index
invariant-loop-index g l = All (λ x. g.I.Number.value x <ℤ pos l.bound) (take l.index-index l.indices)
