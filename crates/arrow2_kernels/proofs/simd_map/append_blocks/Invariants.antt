use Rattle.std.proofs.Common.{◌≡◌, ◌*◌, [], ◌∷◌, take}
use Rattle.arrow2_model.specs.Lists.{bits}
use Rattle.arrow2_model.specs.Tables.{each}
use Rattle.arrow2_kernels.proofs.simd_map.append_blocks.Given as goal

abbrev pub invariant-loop-k : goal.invariant-loop-k
invariant-loop-k l = bits l.bytes.items ≡ each l.t (bits (take (4096 * l.k) l.left) ∷ bits (take (4096 * l.k) l.right) ∷ [])
