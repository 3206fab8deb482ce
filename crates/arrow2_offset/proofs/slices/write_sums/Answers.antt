use Rattle.std.proofs.Common.{◌≡◌, ◌∙◌, ℕ, ◌+◌, ◌<◌, ◌^◌, List, map, ap, arith, pos}
use Rattle.std.proofs.lemmas.List.{length-map, length-set}
use Rattle.arrow2_offset.specs.Offsets.{offset_at}
use Rattle.arrow2_offset.proofs.SliceSteps.{all_offsets, next_sum, one_more_value, sum_up_to}
use Rattle.arrow2_offset.proofs.slices.write_sums.Goals as goal

pub loop-i-init : goal.loop-i-init
loop-i-init g c =
    let value = g.O.Number.value in
    let offsets = c.args.offsets.now in
    let x = c.usize_as.result in
    let l = length-set offsets 0 x in
    let none : offset_at c.args.start c.args.lengths.now 0 ≡ c.args.start = omega arith in
    record {
      exact = omega (arith, l, c.requires.exact);
      sum = omega arith;
      done = one_more_value value offsets (λ k. pos (offset_at c.args.start c.args.lengths.now k)) 0 x (omega (arith, c.requires.exact)) (c.usize_as.ensures ∙ ap pos (omega arith)) (λ k h. let no : ⊥ = omega (arith, h) in absurd no);
    }

pub overflow_add-sum : goal.overflow_add-sum
overflow_add-sum g c =
    let ns : List ℕ = c.args.lengths.now in
    let next = next_sum c.args.start ns c.loop-i.i in
    let most = sum_up_to c.args.start ns (c.loop-i.i + 1) in
    let greatest : g.O.OffsetNumber.MAX < 2 ^ 63 = g.met.O.OffsetNumber.max_size_law g.O.OffsetNumber.MAX ((g.met.O.OffsetNumber.max_law g.O.OffsetNumber.MAX).1 (omega arith)) in
    omega (arith, next, most, greatest, c.requires.fits, c.loop-i.invariant.sum)

pub usize_as-requires-in-loop-i : goal.usize_as-requires-in-loop-i
usize_as-requires-in-loop-i g c =
    let ns : List ℕ = c.args.lengths.now in
    let next = next_sum c.args.start ns c.loop-i.i in
    let most = sum_up_to c.args.start ns (c.loop-i.i + 1) in
    (g.met.O.OffsetNumber.max_law _).1 (omega (arith, next, most, c.requires.fits, c.loop-i.invariant.sum))

pub loop-i-preserved : goal.loop-i-preserved
loop-i-preserved g c =
    let value = g.O.Number.value in
    let i : ℕ = c.loop-i.i in
    let offsets = c.loop-i.offsets in
    let x = c.usize_as-in-loop-i.result in
    let l = length-set offsets (i + 1) x in
    let next = next_sum c.args.start c.args.lengths.now i in
    record {
      exact = omega (arith, l, c.loop-i.invariant.exact);
      sum = omega (arith, next, c.loop-i.invariant.sum);
      done = one_more_value value offsets (λ k. pos (offset_at c.args.start c.args.lengths.now k)) (i + 1) x (omega (arith, c.loop-i-test.true, c.loop-i.invariant.exact)) (c.usize_as-in-loop-i.ensures ∙ ap pos (omega (arith, next, c.loop-i.invariant.sum))) c.loop-i.invariant.done;
    }

pub returns : goal.returns
returns g c =
    let m = length-map c.loop-i.offsets g.O.Number.value in
    all_offsets (map g.O.Number.value c.loop-i.offsets) c.args.start c.args.lengths.now (omega (arith, m, c.loop-i.invariant.exact)) (λ k h. c.loop-i.invariant.done k (omega (arith, h, m, c.loop-i.invariant.exact, c.loop-i-test.false)))
