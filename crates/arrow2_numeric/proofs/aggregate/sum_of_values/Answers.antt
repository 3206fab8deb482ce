use Rattle.std.proofs.Common.{◌≡◌, ◌∙◌, ◌+◌, ◌-◌, ◌+ℤ◌, ap, sym, take, drop, length, arith, drop-drop, length-drop, length-take-le, take-append-drop}
use Rattle.std.proofs.lemmas.Int.{ints}
use Rattle.arrow2_numeric.specs.Aggregates.{sum_of}
use Rattle.arrow2_numeric.proofs.Sums.{sum-append, range-both, range-as}
use Rattle.arrow2_numeric.proofs.aggregate.sum_of_values.Goals as goal

pub loop-start-preserved : goal.loop-start-preserved
loop-start-preserved g c =
    let f = g.T.WholeNumber.integer in
    let start = c.loop-start.start in
    let left = drop start c.args.values.now in
    let n = (start + 2147483648) - start in
    let size : n ≡ 2147483648 = omega arith in
    let next : start + n ≡ start + 2147483648 = omega (arith, size) in
    let sums = sym (ap (sum_of f) (take-append-drop n left)) ∙ (sum-append f (take n left) (drop n left) ∙ ap (λ l. sum_of f (take n left) +ℤ sum_of f l) (drop-drop n start c.args.values.now ∙ ap (λ k. drop k c.args.values.now) next)) in
    let long = length-take-le n left (omega (arith, length-drop start c.args.values.now, size, c.loop-start-test.true, c.count-count.ensures.value)) in
    record {
      sum = omega (arith, ints, sums, c.sum_of_block.ensures.sum, c.exact_sum-total.ensures, c.loop-start.invariant.sum, c.exact_sum-total.type_inv, c.sum_of_block.type_inv);
      range = range-as _ _ _ (range-both start (length (take n left)) (start + 2147483648) _ _ c.loop-start.invariant.range c.sum_of_block.ensures.range (omega (arith, long, size)))
          (omega (arith, ints, c.exact_sum-total.ensures, c.exact_sum-total.type_inv, c.sum_of_block.type_inv));
      within = omega (arith, c.loop-start-test.true, c.count-count.ensures.value);
    }
