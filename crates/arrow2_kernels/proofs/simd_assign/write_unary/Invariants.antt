use Rattle.std.proofs.Common.{◌*◌, [], ◌∷◌}
use Rattle.arrow2_kernels.proofs.LaneSteps.{Written, Acts}
use Rattle.arrow2_kernels.proofs.simd_assign.write_unary.Given as goal

abbrev pub invariant-loop-k : goal.invariant-loop-k
invariant-loop-k l = Written (Acts l.fn.t (l.fn.bytes ∷ [])) l.fn.bytes l.bytes (32 * l.k)

abbrev pub invariant-loop-at : goal.invariant-loop-at
invariant-loop-at l = Written (Acts l.fn.t (l.fn.bytes ∷ [])) l.fn.bytes l.bytes l.at
