use Rattle.std.proofs.Common.{ℕ, ◌-◌, List, arith, refl, take, zip, length-set}
use Rattle.arrow2_walks.proofs.TakenRuns.{none_at_end}
use Rattle.arrow2_ffi.proofs.RunSteps.{run_last, run_more}
use Rattle.arrow2_ffi.proofs.runs.write_runs.Goals as goal

pub returns-then-start-end : goal.returns-then-start-end
returns-then-start-end c = record {
  items = run_last c.args.bits.0.now c.args.bits.1 c.args.end c.args.at c.loop-k.cursor.index c.find_bit-cursor.result.index (zip (take c.loop-k.k c.loop-k.starts) (take c.loop-k.k c.loop-k.lengths)) c.requires.inside c.loop-k.invariant.done c.find_bit-cursor.ensures.first (omega (arith, c.if-start-end.true));
  within_capacity = omega (arith, c.loop-k-test.true, c.loop-k.invariant.starts);
  ends = λ _. (none_at_end c.args.bits.0.now c.args.bits.1 c.args.end c.args.end c.requires.inside refl, refl);
  not_back = c.requires.within;
  within = omega arith;
}

pub loop-k-preserved : goal.loop-k-preserved
loop-k-preserved c =
    let k : ℕ = c.loop-k.k in
    let p : ℕ = c.find_bit-cursor.result.index in
    let q : ℕ = c.find_bit-cursor-in-loop-k.result.index in
    let starts : List ℕ = c.loop-k.starts in
    let lengths : List ℕ = c.loop-k.lengths in
    let l = length-set starts k p in
    let m = length-set lengths k (q - p) in
    let kept = c.loop-k.invariant in
    record {
      starts = omega (arith, l, kept.starts);
      lengths = omega (arith, m, kept.lengths);
      read = c.find_bit-cursor-in-loop-k.ensures.read;
      forth = omega (arith, kept.forth, c.find_bit-cursor.ensures.first.from, c.find_bit-cursor-in-loop-k.ensures.first.from);
      done = run_more c.args.bits.0.now c.args.bits.1 c.args.end c.args.at c.loop-k.cursor.index p q k starts lengths c.requires.inside (omega (arith, c.loop-k-test.true, kept.starts)) (omega (arith, c.loop-k-test.true, kept.lengths)) kept.done c.find_bit-cursor.ensures.first (λ e. omega (arith, e, c.if-start-end.false)) c.find_bit-cursor-in-loop-k.ensures.first;
    }
