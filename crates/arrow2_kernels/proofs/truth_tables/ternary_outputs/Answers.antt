use Rattle.std.proofs.Common.{◌∙◌, [], ◌∷◌, Bool, cond, ap}
use Rattle.arrow2_model.specs.Lists.{bit}
use Rattle.arrow2_kernels.proofs.TableSteps.{wider_output}
use Rattle.arrow2_kernels.proofs.truth_tables.ternary_outputs.Goals as goal

pub returns : goal.returns
returns g c = record {
  results = λ i h.
      let x : Bool = bit (g.T.BitChunk.number c.args.x) i in
      let y : Bool = bit (g.T.BitChunk.number c.args.y) i in
      let z : Bool = bit (g.T.BitChunk.number c.args.z) i in
      c.select.ensures i h ∙ (ap (λ t. cond z t (bit (g.T.BitChunk.number c.binary_outputs-no.result) i)) (c.binary_outputs-yes.ensures.results i h) ∙ (ap (cond z _) (c.binary_outputs-no.ensures.results i h) ∙ wider_output c.args.table (x ∷ y ∷ []) z));
}
