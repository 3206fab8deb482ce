use Rattle.std.proofs.Common.{◌≡◌, ◌∙◌, ℕ, List, [], ◌∷◌, Bool, length, slice_index, sym, ap}
use Rattle.std.proofs.lemmas.Result.{IfOk-weaker}
use Rattle.arrow2_model.specs.Lists.{bits, unnum, word, part, items_of}
use Rattle.arrow2_model.proofs.RowKernels.{unary_is}
use Rattle.arrow2_model.specs.Rows.{AreRowsOf}
use Rattle.arrow2_kernels.specs.WordResults.{AreJoinedResults, MayReturnRow}
use Rattle.arrow2_kernels.proofs.WordResults.{results_as, row_result}
use Rattle.arrow2_bitmap.proofs.bitmap_ops.unary.Given as given
use Rattle.arrow2_bitmap.proofs.bitmap_ops.unary.Goals as goal

-- the rows of an iterator over all items
rows_of : (items walked : List Bool) (n : ℕ) → walked ≡ items → length walked ≡ n → AreRowsOf 64 (items ∷ []) (λ j. word 64 walked j ∷ []) n
rows_of items walked n e l = (sym (ap length e) ∙ l, λ j. ap (λ (i : List Bool). word 64 i j ∷ []) e)

pub returns-then-offset-eq0-clause-kernel : goal.returns-then-offset-eq0-clause-kernel
returns-then-offset-eq0-clause-kernel g c f is =
    let items : List Bool = items_of c.args.lhs.now in
    let shown = c.as_slice-offset.result in
    let e : c.new-chunks.result.items ≡ items = c.new-chunks.ensures.items ∙ (ap (λ o. part (bits shown.0.now) o shown.2) (sym c.if-offset-eq0.true) ∙ c.as_slice-offset.ensures.items) in
    IfOk-weaker c.from_rows.result _ _ (λ b h. h ∙ unary_is 64 f items)
    (c.from_rows.ensures.kernel (λ xs. f (slice_index xs 0)) (items ∷ []) (λ x r fits post. ap (unnum 64) (is x r (fits 0) post)) (rows_of items c.new-chunks.result.items shown.2 e c.new-chunks.ensures.count))

pub returns-then-offset-eq0-clause-table : goal.returns-then-offset-eq0-clause-table
returns-then-offset-eq0-clause-table g c t acts =
    let items : List Bool = items_of c.args.lhs.now in
    let shown = c.as_slice-offset.result in
    let e : c.new-chunks.result.items ≡ items = c.new-chunks.ensures.items ∙ (ap (λ o. part (bits shown.0.now) o shown.2) (sym c.if-offset-eq0.true) ∙ c.as_slice-offset.ensures.items) in
    c.from_rows.ensures.table t (items ∷ []) (λ x r i fits h post. acts x r i (fits 0) h post) (rows_of items c.new-chunks.result.items shown.2 e c.new-chunks.ensures.count)

pub returns-else-offset-eq0-clause-kernel : goal.returns-else-offset-eq0-clause-kernel
returns-else-offset-eq0-clause-kernel g c f is =
    let items : List Bool = items_of c.args.lhs.now in
    let cursor = c.new-chunks-else-offset-eq0 in
    IfOk-weaker c.from_rows-else-offset-eq0.result _ _ (λ b h. h ∙ unary_is 64 f items)
    (c.from_rows-else-offset-eq0.ensures.kernel (λ xs. f (slice_index xs 0)) (items ∷ []) (λ x r fits post. ap (unnum 64) (is x r (fits 0) post))
    (rows_of items cursor.result.items c.as_slice-offset.result.2 (cursor.ensures.items ∙ c.as_slice-offset.ensures.items) cursor.ensures.count))

pub returns-else-offset-eq0-clause-table : goal.returns-else-offset-eq0-clause-table
returns-else-offset-eq0-clause-table g c t acts =
    let items : List Bool = items_of c.args.lhs.now in
    let cursor = c.new-chunks-else-offset-eq0 in
    c.from_rows-else-offset-eq0.ensures.table t (items ∷ []) (λ x r i fits h post. acts x r i (fits 0) h post)
    (rows_of items cursor.result.items c.as_slice-offset.result.2 (cursor.ensures.items ∙ c.as_slice-offset.ensures.items) cursor.ensures.count)

pub returns-then-offset-eq0-clause-results : goal.returns-then-offset-eq0-clause-results
returns-then-offset-eq0-clause-results g c =
    let items : List Bool = items_of c.args.lhs.now in
    let n : ℕ = c.as_slice-offset.result.2 in
    let cursor = c.new-chunks in
    let e : cursor.result.items ≡ items = cursor.ensures.items ∙ (ap (λ o. part (bits c.as_slice-offset.result.0.now) o n) (sym c.if-offset-eq0.true) ∙ c.as_slice-offset.ensures.items) in
    let post : ℕ → ℕ → Type 0 = given.F-post g c.args.op in
    let allowed : ℕ → ℕ → Type 0 = λ j. MayReturnRow 64 (λ x. x ∷ []) (λ x. x) post (word 64 cursor.result.items j ∷ []) in
    let other : ℕ → ℕ → Type 0 = λ j. post (word 64 items j) in
    IfOk-weaker c.from_rows.result (λ b. AreJoinedResults 64 n allowed (items_of b)) (λ b. AreJoinedResults 64 (length items) other (items_of b))
    (λ b are. results_as 64 n (length items) allowed other (items_of b) (sym cursor.ensures.count ∙ ap length e) (λ j y may. row_result 64 (λ x. x ∷ []) post (λ l. post (slice_index l 0)) (word 64 cursor.result.items j ∷ []) (word 64 items j ∷ []) y (λ x r is. is) (ap (λ (l : List Bool). word 64 l j ∷ []) e) may) are)
    c.from_rows.ensures.results

pub returns-else-offset-eq0-clause-results : goal.returns-else-offset-eq0-clause-results
returns-else-offset-eq0-clause-results g c =
    let items : List Bool = items_of c.args.lhs.now in
    let n : ℕ = c.as_slice-offset.result.2 in
    let cursor = c.new-chunks-else-offset-eq0 in
    let e : cursor.result.items ≡ items = cursor.ensures.items ∙ c.as_slice-offset.ensures.items in
    let post : ℕ → ℕ → Type 0 = given.F-post g c.args.op in
    let allowed : ℕ → ℕ → Type 0 = λ j. MayReturnRow 64 (λ x. x ∷ []) (λ x. x) post (word 64 cursor.result.items j ∷ []) in
    let other : ℕ → ℕ → Type 0 = λ j. post (word 64 items j) in
    IfOk-weaker c.from_rows-else-offset-eq0.result (λ b. AreJoinedResults 64 n allowed (items_of b)) (λ b. AreJoinedResults 64 (length items) other (items_of b))
    (λ b are. results_as 64 n (length items) allowed other (items_of b) (sym cursor.ensures.count ∙ ap length e) (λ j y may. row_result 64 (λ x. x ∷ []) post (λ l. post (slice_index l 0)) (word 64 cursor.result.items j ∷ []) (word 64 items j ∷ []) y (λ x r is. is) (ap (λ (l : List Bool). word 64 l j ∷ []) e) may) are)
    c.from_rows-else-offset-eq0.ensures.results
