use Rattle.std.proofs.Common.{◌∙◌, ℕ, List, [], ◌∷◌, Bool, slice_index, ap, refl}
use Rattle.arrow2_model.specs.Lists.{unnum, word}
use Rattle.arrow2_model.specs.Kernels.{kernel}
use Rattle.arrow2_model.specs.Tables.{each}
use Rattle.arrow2_model.proofs.RowKernels.{binary_is}
use Rattle.arrow2_kernels.proofs.WordResults.{binary_result}
use Rattle.arrow2_bitmap.proofs.assign_ops.assign_chunks.Given as given
use Rattle.arrow2_bitmap.proofs.assign_ops.assign_chunks.Goals as goal

pub returns-clause-kernel : goal.returns-clause-kernel
returns-clause-kernel g c f is =
    let w : ℕ = g.T.BitChunk.WIDTH in
    let other : List Bool = (g.I.BitChunkIterExact.cursor c.args.chunks).items in
    c.assign_rows.ensures.kernel (λ xs. f (slice_index xs 0) (slice_index xs 1)) (other ∷ []) (λ x y r small fits post. ap (unnum w) (is x y r small (fits 0) post)) (λ j. refl)
    ∙ (ap (λ m. kernel w (λ xs. f (slice_index xs 0) (slice_index xs 1)) (m.items ∷ other ∷ [])) c.lhs.view_is ∙ binary_is w f c.args.lhs.now.items other)

pub returns-clause-table : goal.returns-clause-table
returns-clause-table g c t acts =
    let other : List Bool = (g.I.BitChunkIterExact.cursor c.args.chunks).items in
    c.assign_rows.ensures.table t (other ∷ []) (λ x y r i small fits h post. acts x y r i small (fits 0) h post) (λ j. refl)
    ∙ ap (λ m. each t (m.items ∷ other ∷ [])) c.lhs.view_is

pub returns-clause-results : goal.returns-clause-results
returns-clause-results g c =
    let w : ℕ = g.T.BitChunk.WIDTH in
    let other : List Bool = (g.I.BitChunkIterExact.cursor c.args.chunks).items in
    let are = c.assign_rows.ensures.results in
    rw (← c.lhs.view_is) (are.0, λ j less. binary_result w g.T.BitChunk.number (given.F-post g c.args.op) (word w c.lhs.inside.bits.items j) (word w other j) (are.0 j) (are.1 j less), are.2)
