use Rattle.std.proofs.Common.{◌∙◌, Bool}
use Rattle.arrow2_model.specs.Lists.{bit}
use Rattle.arrow2_kernels.proofs.TableSteps.{unary_output}
use Rattle.arrow2_kernels.proofs.truth_tables.unary_outputs.Goals as goal

pub returns : goal.returns
returns g c = record {
  results = λ i h.
      let a : Bool = bit (g.T.BitChunk.number c.args.x) i in
      c.select.ensures i h ∙ unary_output c.args.table a _ _ (c.splat_bit-yes.ensures i h ∙ c.bit.ensures) (c.splat_bit-no.ensures i h ∙ c.bit-2.ensures);
}
