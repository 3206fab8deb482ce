use Rattle.std.proofs.Common.{◌∙◌, ℕ, List, [], ◌∷◌, Bool, length, slice_index, ap, arith, rules}
use Rattle.std.proofs.lemmas.Result.{IfOk-weaker}
use Rattle.arrow2_model.specs.Lists.{unnum, items_of, word}
use Rattle.arrow2_model.proofs.RowKernels.{ternary_is}
use Rattle.arrow2_model.specs.Kernels.{bits_of_words}
use Rattle.arrow2_kernels.specs.WordResults.{AreJoinedResults}
use Rattle.arrow2_kernels.proofs.WordResults.{row_result}
use Rattle.arrow2_tables.proofs.bitmap_ops.ternary.Given as given
use Rattle.arrow2_tables.proofs.bitmap_ops.ternary.Goals as goal

pub returns-clause-kernel : goal.returns-clause-kernel
returns-clause-kernel g c f is =
    let a1 : List Bool = items_of c.args.a1.now in
    let a2 : List Bool = items_of c.args.a2.now in
    let a3 : List Bool = items_of c.args.a3.now in
    IfOk-weaker c.from_rows.result _ _ (λ m h. h ∙ ternary_is 64 f a1 a2 a3)
    (c.from_rows.ensures.kernel (λ xs. f (slice_index xs 0) (slice_index xs 1) (slice_index xs 2)) (a1 ∷ a2 ∷ a3 ∷ []) (λ row r fits post. ap (unnum 64) (is row.0.0 row.0.1 row.1 r (fits 0) (fits 1) (fits 2) (search rules))) (search rules))

pub returns-clause-results : goal.returns-clause-results
returns-clause-results g c =
    let a1 : List Bool = items_of c.args.a1.now in
    let a2 : List Bool = items_of c.args.a2.now in
    let a3 : List Bool = items_of c.args.a3.now in
    let post : ℕ → ℕ → ℕ → ℕ → Type 0 = given.F-post g c.args.op in
    IfOk-weaker c.from_rows.result _ (λ m. AreJoinedResults 64 (length a1) (λ j. post (word 64 a1 j) (word 64 a2 j) (word 64 a3 j)) (items_of m))
    (λ m are. (
      are.0,
      λ j less. row_result 64 _ _ (λ l. post (slice_index l 0) (slice_index l 1) (slice_index l 2)) _ (word 64 a1 j ∷ word 64 a2 j ∷ word 64 a3 j ∷ []) (are.0 j) (λ row r is. search rules) (search rules) (are.1 j (omega (arith, c.len.ensures.items, less))),
      are.2 ∙ ap (bits_of_words 64 are.0) c.len.ensures.items,
    ))
    c.from_rows.ensures.results
