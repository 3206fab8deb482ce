use Rattle.std.proofs.Common.{◌∙◌, Bool, get_or}
use Rattle.arrow2_model.specs.Lists.{bit}
use Rattle.arrow2_kernels.proofs.TableSteps.{unary_output}
use Rattle.arrow2_kernels.proofs.simd.unary_lanes.Goals as goal

pub returns : goal.returns
returns c = record {
  long = c.select.ensures.long;
  results = λ k i h g.
      let a : Bool = bit (get_or c.args.x k 0) i in
      c.select.ensures.chosen k i h g ∙ unary_output c.args.table a _ _ (c.splat_bit-yes.ensures k i h g ∙ c.bit.ensures) (c.splat_bit-no.ensures k i h g ∙ c.bit-2.ensures);
}
