use Rattle.std.proofs.Common.{◌∙◌, [], ◌∷◌, Bool, cond, ap, get_or}
use Rattle.arrow2_model.specs.Lists.{bit}
use Rattle.arrow2_kernels.proofs.TableSteps.{wider_output}
use Rattle.arrow2_kernels.proofs.simd.binary_lanes.Goals as goal

pub returns : goal.returns
returns c = record {
  long = c.select.ensures.long;
  results = λ k i h g.
      let x : Bool = bit (get_or c.args.x k 0) i in
      let y : Bool = bit (get_or c.args.y k 0) i in
      c.select.ensures.chosen k i h g ∙ (ap (λ t. cond y t (bit (get_or c.unary_lanes-no.result k 0) i)) (c.unary_lanes-yes.ensures.results k i h g) ∙ (ap (cond y _) (c.unary_lanes-no.ensures.results k i h g) ∙ wider_output c.args.table (x ∷ []) y));
}
