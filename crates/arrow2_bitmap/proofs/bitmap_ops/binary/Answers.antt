use Rattle.std.proofs.Common.{◌∙◌, ℕ, List, [], ◌∷◌, Bool, length, slice_index, ap, arith, rules}
use Rattle.std.proofs.lemmas.Result.{IfOk-weaker}
use Rattle.arrow2_model.specs.Lists.{unnum, items_of, word}
use Rattle.arrow2_model.proofs.RowKernels.{binary_is}
use Rattle.arrow2_model.specs.Kernels.{bits_of_words}
use Rattle.arrow2_kernels.specs.WordResults.{AreJoinedResults}
use Rattle.arrow2_kernels.proofs.WordResults.{row_result}
use Rattle.arrow2_bitmap.proofs.bitmap_ops.binary.Given as given
use Rattle.arrow2_bitmap.proofs.bitmap_ops.binary.Goals as goal

pub returns-clause-kernel : goal.returns-clause-kernel
returns-clause-kernel g c f is =
    let a : List Bool = items_of c.args.lhs.now in
    let b : List Bool = items_of c.args.rhs.now in
    IfOk-weaker c.from_rows.result _ _ (λ m h. h ∙ binary_is 64 f a b)
    (c.from_rows.ensures.kernel (λ xs. f (slice_index xs 0) (slice_index xs 1)) (a ∷ b ∷ []) (λ row r fits post. ap (unnum 64) (is row.0 row.1 r (fits 0) (fits 1) (search rules))) (search rules))

pub returns-clause-results : goal.returns-clause-results
returns-clause-results g c =
    let a : List Bool = items_of c.args.lhs.now in
    let b : List Bool = items_of c.args.rhs.now in
    let post : ℕ → ℕ → ℕ → Type 0 = given.F-post g c.args.op in
    IfOk-weaker c.from_rows.result _ (λ m. AreJoinedResults 64 (length a) (λ j. post (word 64 a j) (word 64 b j)) (items_of m))
    (λ m are. (
      are.0,
      λ j less. row_result 64 _ _ (λ l. post (slice_index l 0) (slice_index l 1)) _ (word 64 a j ∷ word 64 b j ∷ []) (are.0 j) (λ row r is. search rules) (search rules) (are.1 j (omega (arith, c.len.ensures.items, less))),
      are.2 ∙ ap (bits_of_words 64 are.0) c.len.ensures.items,
    ))
    c.from_rows.ensures.results
