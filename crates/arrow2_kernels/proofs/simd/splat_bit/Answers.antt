use Rattle.std.proofs.Common.{◌∙◌, List, ℕ, get_or, ap, sym}
use Rattle.arrow2_model.specs.Lists.{bit}
use Rattle.arrow2_kernels.proofs.LaneSteps.{filled_true, filled_false}
use Rattle.arrow2_kernels.proofs.simd.splat_bit.Goals as goal
use Rattle.arrow2_kernels.proofs.simd.splat_bit.Goals.{then-value, else-value}

pub returns : goal.returns
returns c k i h g = elim c.if-value.branch [
  | then-value w ↦ ap (λ (v : List ℕ). bit (get_or v k 0) i) w.result-is ∙ (filled_true 32 k i h g ∙ sym w.if-value.true)
  | else-value w ↦ ap (λ (v : List ℕ). bit (get_or v k 0) i) w.result-is ∙ (filled_false 32 k i h g ∙ sym w.if-value.false)
]
