use Rattle.std.proofs.Common.{◌≡◌, ℕ, ◌+◌, ◌*◌, ◌/◌, ◌%◌, ◌<◌, take, length, slice_index}
use Rattle.arrow2_model.specs.Lists.{bits, word}
use Rattle.arrow2_kernels.specs.WordResults.{MayReturnOwn}
use Rattle.arrow2_kernels.proofs.AssignSteps.{DoneBy, Kept}
use Rattle.arrow2_kernels.proofs.assign.assign_rows.Given as goal

abbrev pub invariant-loop-row : goal.invariant-loop-row
invariant-loop-row g l = record {
  callable : goal.F-IsAlwaysCallable g l.op;
  same_lengths : g.S.WordRows.same_lengths l.rows;
  size : length l.bytes ≡ length l.fn.bytes;
  fits : (k : ℕ) → slice_index l.bytes k < 256;
  whole : l.at % g.T.NativeType.SIZE ≡ 0;
  left : g.S.WordRows.len l.rows + 8 * l.at ≡ l.len;
  ahead : (j : ℕ) → g.S.WordRows.row_at l.rows j ≡ g.S.WordRows.row_at l.fn.rows (l.at / g.T.NativeType.SIZE + j);
  kept : Kept l.fn.bytes l.bytes (8 * l.at);
  done : DoneBy g.T.BitChunk.WIDTH (λ j. MayReturnOwn g.T.BitChunk.WIDTH g.S.WordRows.words g.T.BitChunk.number (goal.F-post g l.op)
      (word g.T.BitChunk.WIDTH (take l.len (bits l.fn.bytes)) j) (g.S.WordRows.row_at l.fn.rows j)) l.bytes (8 * l.at);
}

abbrev pub decreases-loop-row : goal.decreases-loop-row
decreases-loop-row g l = g.S.WordRows.len l.rows
