use Rattle.std.proofs.Common.{◌∙◌, drop, arith, rules}
use Rattle.arrow2_model.proofs.Kernels.{table_word}
use Rattle.arrow2_model.proofs.RowKernels.{acts_rows, rows_table}
use Rattle.arrow2_kernels.proofs.map.write_rows.Goals as goal

pub returns-clause-items : goal.returns-clause-items
returns-clause-items g c f is = c.assign_rows.ensures.items (λ xs. f (drop 1 xs)) (λ x row r x< words post. is row r words (search rules))

pub returns-clause-table : goal.returns-clause-table
returns-clause-table g c t lists acts are =
    c.assign_rows.ensures.items (λ xs. table_word 64 t (drop 1 xs)) (λ x row r fits words post. acts_rows 64 t g.S.WordRows.words (λ x. x) _ acts row r words (search rules))
    ∙ rows_table 64 c.args.len t lists (g.S.WordRows.row_at c.args.rows) (omega arith) are

pub returns-clause-results : goal.returns-clause-results
returns-clause-results g c =
    let are = c.assign_rows.ensures.results in
    (are.0, λ j less. let may = are.1 j less in let post = may.7 in (may.1, may.2, may.4, may.5, may.6, search rules), are.2)
