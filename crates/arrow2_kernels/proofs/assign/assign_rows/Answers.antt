use Rattle.std.proofs.Common.{◌≡◌, ◌⊎◌, inl, inr, ℕ, List, Bool, ◌+◌, ◌-◌, ◌*◌, ◌/◌, ◌<◌, ◌≤◌, length, take, ap, sym, subst, refl, ◌∙◌, arith, rules, length-take-le}
use Rattle.arrow2_model.specs.Lists.{bits, word}
use Rattle.arrow2_model.proofs.Bits.{length-bits}
use Rattle.arrow2_model.proofs.Numbers.{num-part-lt}
use Rattle.std.proofs.Math.Nat.{zero-div, zero-mod}
use Rattle.arrow2_kernels.specs.WordResults.{MayReturnOwn}
use Rattle.arrow2_kernels.proofs.WordResults.{computed_items}
use Rattle.arrow2_kernels.proofs.AssignSteps.{Kept, DoneBy, position_now, position_next, own_word, own_rest, kept_word, one_done, last_done, all_joined, rest_canonical, whole_canonical}
use Rattle.arrow2_kernels.proofs.RowSteps.{own_outputs}
use Rattle.arrow2_kernels.proofs.assign.assign_rows.Given as given
use Rattle.arrow2_kernels.proofs.assign.assign_rows.Goals as goal

pub loop-row-init : goal.loop-row-init
loop-row-init g c = record {
  callable = search rules;
  same_lengths = search rules;
  size = search rules;
  fits = λ k. (c.type_inv.bytes k).fits;
  whole = zero-mod g.T.NativeType.SIZE;
  left = omega (arith, c.requires.len);
  ahead = λ j. ap (g.S.WordRows.row_at c.args.rows) (omega (arith, zero-div g.T.NativeType.SIZE));
  kept = λ k h. refl;
  done = (λ _. 0, λ j h. absurd (omega (arith, h)), λ k h. absurd (omega (arith, h)));
}

pub loop-row-preserved : goal.loop-row-preserved
loop-row-preserved g c =
    let w : ℕ = g.T.BitChunk.WIDTH in
    let size : ℕ = g.T.NativeType.SIZE in
    let at : ℕ = c.loop-row.at in
    let q : ℕ = at / size in
    let n : ℕ = c.args.len in
    let old = c.args.bytes.now in
    let bytes = c.loop-row.bytes in
    let after = c.put_word.new.bytes in
    let wide = g.met.T.BitChunk.size_law in
    let bounds = g.met.T.BitChunk.width_bounds in
    let before = c.loop-row.invariant in
    let step = c.in-Some.ensures.row in
    let pos : 8 * at ≡ w * q = position_now w size at wide before.whole in
    let next = position_next size at c.SIZE-at.result (omega (arith, wide, bounds)) c.SIZE-at.ensures before.whole in
    let end : 8 * (at + c.SIZE-at.result) ≡ 8 * at + w = omega (arith, wide, c.SIZE-at.ensures) in
    let own = own_word w (g.T.BitChunk.number c.word_at.result) q n (8 * at) old bytes pos (omega (arith, before.left, step.2)) (omega (arith, c.requires.exact)) c.word_at.ensures.fits
    (λ i h. c.word_at.ensures.items i (omega (arith, h, wide, c.SIZE.ensures))) before.kept in
    let same : (k : ℕ) → (k < 8 * at) ⊎ (8 * at + w ≤ k) → _ = λ k h. c.put_word.ensures.kept k (elim h [ inl lt ↦ inl lt | inr ge ↦ inr (omega (arith, ge, wide, c.SIZE-in-Some.ensures)) ]) in
    record {
      callable = before.callable;
      same_lengths = c.next_row.ensures.same_lengths;
      size = search rules;
      fits = λ k. (c.type_inv.bytes k).fits;
      whole = next.0;
      left = omega (arith, before.left, step.2, end);
      ahead = λ j. step.3 j ∙ (before.ahead (j + 1) ∙ ap (g.S.WordRows.row_at c.args.rows) (omega (arith, next.1)));
      kept = subst (Kept old after) (sym end) (kept_word old bytes after (8 * at) w before.kept same);
      done =
          let row : g.S.WordRows.words c.in-Some.row ≡ g.S.WordRows.row_at c.args.rows q = step.0 ∙ (before.ahead 0 ∙ ap (g.S.WordRows.row_at c.args.rows) (omega arith)) in
          let allowed : ℕ → ℕ → Type 0 = λ j. MayReturnOwn w g.S.WordRows.words g.T.BitChunk.number (given.F-post g c.args.op) (word w (take n (bits old)) j) (g.S.WordRows.row_at c.args.rows j) in
          subst (DoneBy w allowed after) (sym end)
          (one_done w (g.T.BitChunk.number c.op-output.result) q (8 * at) allowed bytes after (omega (arith, bounds)) pos
          (λ i h. c.put_word.ensures.written i (omega (arith, h, wide, c.SIZE-in-Some.ensures))) same
          (c.word_at.result, c.in-Some.row, c.op-output.result, own, row, step.1, refl, c.op-output.ensures)
          before.done);
    }

pub returns-then-left-gt0-clause-canonical : goal.returns-then-left-gt0-clause-canonical
returns-then-left-gt0-clause-canonical g c =
    let w : ℕ = g.T.BitChunk.WIDTH in
    let at : ℕ = c.loop-row.at in
    let n : ℕ = c.args.len in
    let len : ℕ = n - 8 * at in
    let count : ℕ = length c.loop-row.bytes - at in
    let after = c.put_word-then-left-gt0.new.bytes in
    let wide = g.met.T.BitChunk.size_law in
    let before = c.loop-row.invariant in
    let short = c.in_default.ensures.row.0 in
    let size : length after ≡ (n + 7) / 8 = omega (arith, c.put_word-then-left-gt0.auto.bytes, before.size, c.requires.exact) in
    rest_canonical w (g.T.BitChunk.number c.op.result) (g.T.BitChunk.number c.masked.result) len (8 * at) count n after
    (omega (arith, before.left, short)) (omega (arith, before.left)) (omega (arith, before.left, before.size, c.requires.exact, size)) (omega (arith, before.left, short, wide, before.size, c.requires.exact)) size
    c.masked.ensures.bits c.put_word-then-left-gt0.ensures.written (λ k. (c.type_inv.bytes k).fits)

pub returns-then-left-gt0-clause-results : goal.returns-then-left-gt0-clause-results
returns-then-left-gt0-clause-results g c =
    let w : ℕ = g.T.BitChunk.WIDTH in
    let size : ℕ = g.T.NativeType.SIZE in
    let at : ℕ = c.loop-row.at in
    let q : ℕ = at / size in
    let n : ℕ = c.args.len in
    let len : ℕ = n - 8 * at in
    let old = c.args.bytes.now in
    let bytes = c.loop-row.bytes in
    let after = c.put_word-then-left-gt0.new.bytes in
    let wide = g.met.T.BitChunk.size_law in
    let bounds = g.met.T.BitChunk.width_bounds in
    let before = c.loop-row.invariant in
    let short = c.in_default.ensures.row.0 in
    let pos : 8 * at ≡ w * q = position_now w size at wide before.whole in
    let row : g.S.WordRows.words c.rest_row.result ≡ g.S.WordRows.row_at c.args.rows q = c.rest_row.ensures.row ∙ (c.in_default.ensures.row.2 0 ∙ (before.ahead 0 ∙ ap (g.S.WordRows.row_at c.args.rows) (omega arith))) in
    let allowed : ℕ → ℕ → Type 0 = λ j. MayReturnOwn w g.S.WordRows.words g.T.BitChunk.number (given.F-post g c.args.op) (word w (take n (bits old)) j) (g.S.WordRows.row_at c.args.rows j) in
    let own = own_rest w (g.T.BitChunk.number c.word_at-then-left-gt0.result) (g.T.BitChunk.number c.masked-own.result) len q n (8 * at) old bytes pos (omega (arith, before.left)) (omega (arith, before.left, short)) (omega (arith, c.requires.exact))
    c.masked-own.ensures.fits c.masked-own.ensures.bits (λ i i<. c.word_at-then-left-gt0.ensures.items i (omega (arith, i<, before.left, before.size, c.requires.exact))) before.kept in
    all_joined w n allowed after (omega (arith, bounds)) (omega (arith, c.put_word-then-left-gt0.auto.bytes, before.size, c.requires.exact))
    (last_done w (g.T.BitChunk.number c.op.result) (g.T.BitChunk.number c.masked.result) len q (8 * at) n allowed bytes after (omega (arith, bounds)) pos (omega (arith, before.left)) (omega (arith, before.left, short)) c.masked.ensures.bits
    (λ i i<. c.put_word-then-left-gt0.ensures.written i (omega (arith, i<, before.left, before.size, c.requires.exact))) (λ k k<. c.put_word-then-left-gt0.ensures.kept k (inl k<))
    (c.masked-own.result, c.rest_row.result, c.op.result, own, row, c.rest_row.ensures.fits, refl, c.op.ensures)
    before.done)

pub returns-then-left-gt0-clause-items : goal.returns-then-left-gt0-clause-items
returns-then-left-gt0-clause-items g c f computes =
    let w : ℕ = g.T.BitChunk.WIDTH in
    let own : List Bool = take c.args.len (bits c.args.bytes.now) in
    let bounds = g.met.T.BitChunk.width_bounds in
    computed_items w c.args.len g.S.WordRows.words g.T.BitChunk.number (given.F-post g c.args.op) (word w own) (g.S.WordRows.row_at c.args.rows) f (take c.args.len (bits c.put_word-then-left-gt0.new.bytes)) (omega (arith, bounds)) (λ j. num-part-lt w own (w * j)) computes (returns-then-left-gt0-clause-results g c)

pub returns-clause-canonical : goal.returns-clause-canonical
returns-clause-canonical g c =
    let before = c.loop-row.invariant in
    whole_canonical c.loop-row.bytes c.args.len (omega (arith, before.left, before.size, c.requires.exact)) before.fits

pub returns-clause-results : goal.returns-clause-results
returns-clause-results g c =
    let w : ℕ = g.T.BitChunk.WIDTH in
    let n : ℕ = c.args.len in
    let before = c.loop-row.invariant in
    let bounds = g.met.T.BitChunk.width_bounds in
    let allowed : ℕ → ℕ → Type 0 = λ j. MayReturnOwn w g.S.WordRows.words g.T.BitChunk.number (given.F-post g c.args.op) (word w (take n (bits c.args.bytes.now)) j) (g.S.WordRows.row_at c.args.rows j) in
    let end : 8 * c.loop-row.at ≡ n = omega (arith, before.left) in
    all_joined w n allowed c.loop-row.bytes (omega (arith, bounds)) (omega (arith, before.size, c.requires.exact)) (subst (DoneBy w allowed c.loop-row.bytes) end before.done)

pub returns-clause-items : goal.returns-clause-items
returns-clause-items g c f computes =
    let w : ℕ = g.T.BitChunk.WIDTH in
    let own : List Bool = take c.args.len (bits c.args.bytes.now) in
    let bounds = g.met.T.BitChunk.width_bounds in
    computed_items w c.args.len g.S.WordRows.words g.T.BitChunk.number (given.F-post g c.args.op) (word w own) (g.S.WordRows.row_at c.args.rows) f (take c.args.len (bits c.loop-row.bytes)) (omega (arith, bounds)) (λ j. num-part-lt w own (w * j)) computes (returns-clause-results g c)

length-own : (n : ℕ) (bytes : List ℕ) → length bytes ≡ (n + 7) / 8 → length (take n (bits bytes)) ≡ n
length-own n bytes exact = length-take-le n (bits bytes) (omega (arith, length-bits bytes, exact))

pub returns-then-left-gt0-clause-table : goal.returns-then-left-gt0-clause-table
returns-then-left-gt0-clause-table g c t lists acts are =
    let n : ℕ = c.args.len in
    own_outputs g.T.BitChunk.WIDTH n t g.S.WordRows.words g.T.BitChunk.number (given.F-post g c.args.op) (take n (bits c.args.bytes.now)) (take n (bits c.put_word-then-left-gt0.new.bytes)) lists (g.S.WordRows.row_at c.args.rows)
    (omega (arith, g.met.T.BitChunk.width_bounds)) (length-own n c.args.bytes.now c.requires.exact) (returns-then-left-gt0-clause-items g c) acts are

pub returns-clause-table : goal.returns-clause-table
returns-clause-table g c t lists acts are =
    let n : ℕ = c.args.len in
    own_outputs g.T.BitChunk.WIDTH n t g.S.WordRows.words g.T.BitChunk.number (given.F-post g c.args.op) (take n (bits c.args.bytes.now)) (take n (bits c.loop-row.bytes)) lists (g.S.WordRows.row_at c.args.rows)
    (omega (arith, g.met.T.BitChunk.width_bounds)) (length-own n c.args.bytes.now c.requires.exact) (returns-clause-items g c) acts are
