use Rattle.std.proofs.Common.{◌≡◌, ◌∙◌, ◌<◌, ap, length, rules, arith, flat_map}
use Rattle.std.proofs.Math.IntN.{+ℤ_idl}
use Rattle.std.proofs.lemmas.Int.{ints, to_z-of_z}
use Rattle.arrow2_model.specs.Lists.{unnum, part}
use Rattle.arrow2_chunk.specs.Ones.{ones}
use Rattle.arrow2_walks.proofs.Selections.{length-selected}
use Rattle.arrow2_numeric.specs.Aggregates.{sum_of}
use Rattle.arrow2_numeric.proofs.Selecting.{cut-ones}
use Rattle.arrow2_numeric.proofs.Sums.{sum-position, range-start, range-one, range-step, range-as, range-fits}
use Rattle.arrow2_numeric.proofs.aggregate.sum_of_word.Goals as goal

pub loop-position-init : goal.loop-position-init
loop-position-init g c =
    let values = c.args.values.now in
    let word = unnum 64 c.args.word in
    let positions : c.into_iter-position-iterator.result ≡ ones word = search rules in
    let cut = ap (λ l. flat_map (λ position. part values position 1) l) positions ∙ cut-ones values word in
    record {
      sum = +ℤ_idl _ ∙ ap (sum_of g.T.WholeNumber.integer) cut;
      few = omega (arith, ap length cut);
      range = range-start _;
    }

pub exact_sum-total-requires : goal.exact_sum-total-requires
exact_sum-total-requires g c =
    let values = c.args.values.now in
    let found = c.in-Some-get.ensures.lookup in
    let less : c.in-Some.position < length values = omega arith in
    let step = sum-position g.T.WholeNumber.integer values c.in-Some.position _ _ _ c.in-Some.ensures.steps less found.1 in
    let range = range-step _ _ 1 _ _ _ c.loop-position.invariant.range (range-one c.to_i128.result c.to_i128.ensures.low c.to_i128.ensures.high) step.1 c.loop-position.invariant.few in
    let fits = range-fits _ _ range (omega (arith, length-selected values (unnum 64 c.args.word), c.requires.few)) in
    grind (arith, to_z-of_z, fits, c.to_i128.type_inv)

pub loop-position-preserved-in-Some-get : goal.loop-position-preserved-in-Some-get
loop-position-preserved-in-Some-get g c =
    let values = c.args.values.now in
    let found = c.in-Some-get.ensures.lookup in
    let less : c.in-Some.position < length values = omega arith in
    let step = sum-position g.T.WholeNumber.integer values c.in-Some.position _ _ _ c.in-Some.ensures.steps less found.1 in
    let range = range-step _ _ 1 _ _ _ c.loop-position.invariant.range (range-one c.to_i128.result c.to_i128.ensures.low c.to_i128.ensures.high) step.1 c.loop-position.invariant.few in
    record {
      sum = omega (arith, ints, step.0, c.to_i128.ensures.value, c.exact_sum-total.ensures, c.loop-position.invariant.sum, c.exact_sum-total.type_inv, c.to_i128.type_inv);
      few = omega (arith, step.1, c.loop-position.invariant.few);
      range = range-as _ _ _ range (omega (arith, ints, c.exact_sum-total.ensures, c.exact_sum-total.type_inv, c.to_i128.type_inv));
    }
