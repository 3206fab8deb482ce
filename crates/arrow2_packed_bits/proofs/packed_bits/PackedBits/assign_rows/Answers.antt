use Rattle.std.proofs.Common.{◌≡◌, ◌∙◌, ℕ, List, ◌∷◌, Bool, ap, sym, subst, length, take, arith}
use Rattle.arrow2_model.specs.Lists.{bits, word}
use Rattle.arrow2_model.specs.Kernels.{bits_of_words, kernel}
use Rattle.arrow2_model.specs.Tables.{each}
use Rattle.arrow2_model.proofs.RowKernels.{rows_kernel}
use Rattle.arrow2_kernels.specs.WordResults.{MayReturnOwn}
use Rattle.arrow2_kernels.proofs.RowSteps.{paired_own}
use Rattle.arrow2_kernels.proofs.VectorWrites.{whole_written}
use Rattle.arrow2_kernels.proofs.WordResults.{results_as}
use Rattle.arrow2_packed_bits.proofs.Buffer.{length_items}
use Rattle.arrow2_packed_bits.proofs.packed_bits.PackedBits.assign_rows.Given as given
use Rattle.arrow2_packed_bits.proofs.packed_bits.PackedBits.assign_rows.Goals as goal

pub returns-clause-kernel : goal.returns-clause-kernel
returns-clause-kernel g c f lists is are =
    let w : ℕ = g.T.BitChunk.WIDTH in
    let b = c.self.inside in
    let n : ℕ = b.length in
    let own : List Bool = take n (bits b.bytes.items) in
    let row : ℕ → List ℕ = g.S.WordRows.row_at c.args.rows in
    let whole = whole_written b.bytes.items c.assign_rows.new.bytes b.bytes.len b.bytes.ok.0 (omega (arith, c.assign_rows.auto.bytes, c.as_mut_slice.ensures.len, b.bytes.ok.0)) in
    ap (λ (bytes : List ℕ). take n (bits bytes)) whole
    ∙ (c.assign_rows.ensures.items f is
    ∙ (ap (λ (bytes : List ℕ). bits_of_words w (λ j. f (word w (take n (bits bytes)) j ∷ row j)) n) c.as_mut_slice.ensures.value
    ∙ (rows_kernel w n f (own ∷ lists) (λ j. word w own j ∷ row j) (omega (arith, g.met.T.BitChunk.width_bounds)) (paired_own w n own lists row (length_items b.bytes.items n c.self.invariant) are)
    ∙ ap (λ m. kernel w f (m.items ∷ lists)) c.self.view_is)))

pub returns-clause-table : goal.returns-clause-table
returns-clause-table g c t lists acts are =
    let b = c.self.inside in
    let n : ℕ = b.length in
    let whole = whole_written b.bytes.items c.assign_rows.new.bytes b.bytes.len b.bytes.ok.0 (omega (arith, c.assign_rows.auto.bytes, c.as_mut_slice.ensures.len, b.bytes.ok.0)) in
    ap (λ (bytes : List ℕ). take n (bits bytes)) whole
    ∙ (c.assign_rows.ensures.table t lists acts are
    ∙ (ap (λ (bytes : List ℕ). each t (take n (bits bytes) ∷ lists)) c.as_mut_slice.ensures.value ∙ ap (λ m. each t (m.items ∷ lists)) c.self.view_is))

pub returns-clause-results : goal.returns-clause-results
returns-clause-results g c =
    let w : ℕ = g.T.BitChunk.WIDTH in
    let b = c.self.inside in
    let n : ℕ = b.length in
    let row : ℕ → List ℕ = g.S.WordRows.row_at c.args.rows in
    let allowed : List Bool → ℕ → ℕ → Type 0 = λ own j. MayReturnOwn w g.S.WordRows.words g.T.BitChunk.number (given.F-post g c.args.op) (word w own j) (row j) in
    let whole = whole_written b.bytes.items c.assign_rows.new.bytes b.bytes.len b.bytes.ok.0 (omega (arith, c.assign_rows.auto.bytes, c.as_mut_slice.ensures.len, b.bytes.ok.0)) in
    let own : take n (bits c.as_mut_slice.result.now) ≡ take n (bits b.bytes.items) = ap (λ (bytes : List ℕ). take n (bits bytes)) c.as_mut_slice.ensures.value in
    rw (whole, ← c.self.view_is) (results_as w n (length (take n (bits b.bytes.items))) (allowed (take n (bits c.as_mut_slice.result.now))) (allowed (take n (bits b.bytes.items))) (take n (bits c.assign_rows.new.bytes))
    (sym (length_items b.bytes.items n c.self.invariant)) (λ j y may. subst (λ l. allowed l j y) own may) c.assign_rows.ensures.results)

pub returns-clause-len : goal.returns-clause-len
returns-clause-len g c =
    let b = c.self.inside in
    let n : ℕ = b.length in
    let whole = whole_written b.bytes.items c.assign_rows.new.bytes b.bytes.len b.bytes.ok.0 (omega (arith, c.assign_rows.auto.bytes, c.as_mut_slice.ensures.len, b.bytes.ok.0)) in
    ap (λ (bytes : List ℕ). length (take n (bits bytes))) whole
    ∙ (length_items c.assign_rows.new.bytes n c.assign_rows.ensures.canonical ∙ (sym (length_items b.bytes.items n c.self.invariant) ∙ ap (λ m. length m.items) c.self.view_is))
