use Rattle.std.proofs.Common.{◌≡◌, ◌∙◌, ℕ, subst, length, List, [], ◌∷◌, Bool, sym, ap}
use Rattle.arrow2_model.specs.Lists.{bits, word, part, items_of}
use Rattle.arrow2_model.specs.Kernels.{binary_kernel}
use Rattle.arrow2_model.specs.Tables.{each}
use Rattle.arrow2_kernels.specs.WordResults.{AreJoinedResults, MayReturnBinary}
use Rattle.arrow2_bitmap.proofs.assign_ops.binary_assign.Given as given
use Rattle.arrow2_bitmap.proofs.assign_ops.binary_assign.Goals as goal

pub returns-then-offset-eq0-clause-kernel : goal.returns-then-offset-eq0-clause-kernel
returns-then-offset-eq0-clause-kernel g c f is =
    let e : c.new.result.items ≡ items_of c.args.rhs.now = c.new.ensures.items ∙ (ap (λ o. part (bits c.as_slice-offset.result.0.now) o c.as_slice-offset.result.2) (sym c.if-offset-eq0.true) ∙ c.as_slice-offset.ensures.items) in
    c.assign_chunks.ensures.kernel f is ∙ ap (binary_kernel g.T.BitChunk.WIDTH f c.args.lhs.now.items) e

pub returns-then-offset-eq0-clause-table : goal.returns-then-offset-eq0-clause-table
returns-then-offset-eq0-clause-table g c t acts =
    let e : c.new.result.items ≡ items_of c.args.rhs.now = c.new.ensures.items ∙ (ap (λ o. part (bits c.as_slice-offset.result.0.now) o c.as_slice-offset.result.2) (sym c.if-offset-eq0.true) ∙ c.as_slice-offset.ensures.items) in
    c.assign_chunks.ensures.table t acts ∙ ap (λ (items : List Bool). each t (c.args.lhs.now.items ∷ items ∷ [])) e

pub returns-else-offset-eq0-clause-kernel : goal.returns-else-offset-eq0-clause-kernel
returns-else-offset-eq0-clause-kernel g c f is =
    c.assign_chunks-else-offset-eq0.ensures.kernel f is ∙ ap (binary_kernel g.T.BitChunk.WIDTH f c.args.lhs.now.items) (c.new-else-offset-eq0.ensures.items ∙ c.as_slice-offset.ensures.items)

pub returns-else-offset-eq0-clause-table : goal.returns-else-offset-eq0-clause-table
returns-else-offset-eq0-clause-table g c t acts =
    c.assign_chunks-else-offset-eq0.ensures.table t acts ∙ ap (λ (items : List Bool). each t (c.args.lhs.now.items ∷ items ∷ [])) (c.new-else-offset-eq0.ensures.items ∙ c.as_slice-offset.ensures.items)

pub returns-then-offset-eq0-clause-results : goal.returns-then-offset-eq0-clause-results
returns-then-offset-eq0-clause-results g c =
    let w : ℕ = g.T.BitChunk.WIDTH in
    let e : c.new.result.items ≡ items_of c.args.rhs.now = c.new.ensures.items ∙ (ap (λ o. part (bits c.as_slice-offset.result.0.now) o c.as_slice-offset.result.2) (sym c.if-offset-eq0.true) ∙ c.as_slice-offset.ensures.items) in
    subst (λ (items : List Bool). AreJoinedResults w (length c.args.lhs.now.items) (λ j. MayReturnBinary g.T.BitChunk.number (given.F-post g c.args.op) (word w c.args.lhs.now.items j) (word w items j)) c.assign_chunks.new.lhs.items) e c.assign_chunks.ensures.results

pub returns-else-offset-eq0-clause-results : goal.returns-else-offset-eq0-clause-results
returns-else-offset-eq0-clause-results g c =
    let w : ℕ = g.T.BitChunk.WIDTH in
    let e : c.new-else-offset-eq0.result.items ≡ items_of c.args.rhs.now = c.new-else-offset-eq0.ensures.items ∙ c.as_slice-offset.ensures.items in
    subst (λ (items : List Bool). AreJoinedResults w (length c.args.lhs.now.items) (λ j. MayReturnBinary g.T.BitChunk.number (given.F-post g c.args.op) (word w c.args.lhs.now.items j) (word w items j)) c.assign_chunks-else-offset-eq0.new.lhs.items) e c.assign_chunks-else-offset-eq0.ensures.results
