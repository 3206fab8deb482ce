use Rattle.std.proofs.Common.{◌∙◌, ℕ, [], ◌∷◌, slice_index, ap, refl, rules}
use Rattle.arrow2_model.specs.Lists.{unnum}
use Rattle.arrow2_model.specs.Kernels.{kernel}
use Rattle.arrow2_model.proofs.RowKernels.{unary_is}
use Rattle.arrow2_bitmap.proofs.assign_ops.unary_assign.Goals as goal

pub returns-clause-kernel : goal.returns-clause-kernel
returns-clause-kernel g c f is =
    let w : ℕ = g.T.BitChunk.WIDTH in
    c.assign_rows.ensures.kernel (λ xs. f (slice_index xs 0)) [] (λ x row r small fits post. ap (unnum w) (is x r small (search rules))) (λ j. refl)
    ∙ (ap (λ m. kernel w (λ xs. f (slice_index xs 0)) (m.items ∷ [])) c.bitmap.view_is ∙ unary_is w f c.args.bitmap.now.items)

pub returns-clause-results : goal.returns-clause-results
returns-clause-results g c =
    let are = c.assign_rows.ensures.results in
    rw (← c.bitmap.view_is) (are.0, λ j less. let may = are.1 j less in let post = may.7 in (may.0, may.2, may.3, may.6, search rules), are.2)
