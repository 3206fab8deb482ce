use Rattle.std.proofs.Common.{◌≡◌, ◌∙◌, ℕ, take, arith, rules}
use Rattle.std.proofs.lemmas.Result.{IfOk-weaker}
use Rattle.arrow2_model.proofs.Kernels.{table_word}
use Rattle.arrow2_model.proofs.RowKernels.{rows_kernel, rows_table, acts_rows}
use Rattle.arrow2_bitmap.proofs.PackedBitmaps.{packed_bytes}
use Rattle.arrow2_model.specs.Lists.{bits, items_of}
use Rattle.arrow2_kernels.specs.WordResults.{AreJoinedResults, MayReturnRow}
use Rattle.arrow2_bitmap.proofs.bitmap_ops.from_rows.Given as given
use Rattle.arrow2_bitmap.proofs.bitmap_ops.from_rows.Goals as goal

pub returns-clause-items : goal.returns-clause-items
returns-clause-items g c f is =
    IfOk-weaker c.from_u8_vec.result _ _ (λ b e. e ∙ c.in_ok-bytes.ensures.items f is) c.from_u8_vec.ensures.items

pub returns-clause-kernel : goal.returns-clause-kernel
returns-clause-kernel g c f lists is are =
    IfOk-weaker c.from_u8_vec.result _ _ (λ b e. e ∙ (c.in_ok-bytes.ensures.items f is ∙ rows_kernel 64 c.args.len f lists (g.S.WordRows.row_at c.args.rows) (omega arith) are)) c.from_u8_vec.ensures.items

pub returns-clause-table : goal.returns-clause-table
returns-clause-table g c t lists acts are =
    IfOk-weaker c.from_u8_vec.result _ _
    (λ b e. e ∙ (c.in_ok-bytes.ensures.items (table_word 64 t) (acts_rows 64 t g.S.WordRows.words (λ x. x) _ acts) ∙ rows_table 64 c.args.len t lists (g.S.WordRows.row_at c.args.rows) (omega arith) are))
    c.from_u8_vec.ensures.items

pub returns-clause-made : goal.returns-clause-made
returns-clause-made g c = record {
  len = search rules;
  storage = IfOk-weaker c.from_u8_vec.result _ _ (packed_bytes c.in_ok-bytes.bytes.items c.args.len c.in_ok-bytes.ensures.canonical) c.from_u8_vec.ensures.ok;
  only = search rules;
}

pub returns-clause-results : goal.returns-clause-results
returns-clause-results g c =
    let n : ℕ = c.args.len in
    let allowed : ℕ → ℕ → Type 0 = λ j. MayReturnRow 64 g.S.WordRows.words (λ x. x) (given.F-post g c.args.op) (g.S.WordRows.row_at c.args.rows j) in
    let are = c.in_ok-bytes.ensures.results in
    IfOk-weaker c.from_u8_vec.result (λ b. items_of b ≡ take n (bits c.in_ok-bytes.bytes.items)) (λ b. AreJoinedResults 64 n allowed (items_of b)) (λ b e. (are.0, are.1, e ∙ are.2)) c.from_u8_vec.ensures.items
