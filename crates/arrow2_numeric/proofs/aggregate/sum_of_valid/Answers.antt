use Rattle.std.proofs.Common.{◌∙◌, ap, length, arith, length-append}
use Rattle.std.proofs.lemmas.Int.{ints, to_z-of_z}
use Rattle.arrow2_model.specs.Lists.{unnum, items_of}
use Rattle.arrow2_numeric.specs.MaskedBlocks.{selected_left}
use Rattle.arrow2_walks.specs.Selections.{selection}
use Rattle.arrow2_walks.proofs.Selections.{length-selected}
use Rattle.arrow2_numeric.specs.Aggregates.{sum_of}
use Rattle.arrow2_numeric.proofs.Sums.{sum-append, range-step, range-as, range-fits}
use Rattle.arrow2_numeric.proofs.aggregate.sum_of_valid.Goals as goal

pub exact_sum-total-requires : goal.exact_sum-total-requires
exact_sum-total-requires g c =
    let all = selection c.args.values.now (items_of c.args.validity.now) in
    let block = selection c.in-Some.block.now (unnum 64 c.in-Some.word) in
    let step = c.in-Some.ensures.block in
    let lens = length-append block (selected_left c.next_block.new.self) in
    let range = range-step (length all) _ (length block) (length (selected_left c.next_block.new.self)) _ _ c.loop-block.invariant.range c.sum_of_word.ensures.range (omega (arith, lens, ap length step.selected)) c.loop-block.invariant.few in
    let fits = range-fits _ _ range (omega (arith, length-selected c.args.values.now (items_of c.args.validity.now), c.count-count.ensures.few, c.count-count.ensures.value)) in
    grind (arith, to_z-of_z, fits, c.sum_of_word.type_inv)

pub loop-block-preserved : goal.loop-block-preserved
loop-block-preserved g c =
    let f = g.T.WholeNumber.integer in
    let all = selection c.args.values.now (items_of c.args.validity.now) in
    let block = selection c.in-Some.block.now (unnum 64 c.in-Some.word) in
    let step = c.in-Some.ensures.block in
    let lens = length-append block (selected_left c.next_block.new.self) in
    let sums = ap (sum_of f) step.selected ∙ sum-append f block (selected_left c.next_block.new.self) in
    let range = range-step (length all) _ (length block) (length (selected_left c.next_block.new.self)) _ _ c.loop-block.invariant.range c.sum_of_word.ensures.range (omega (arith, lens, ap length step.selected)) c.loop-block.invariant.few in
    record {
      sum = omega (arith, ints, sums, c.sum_of_word.ensures.sum, c.exact_sum-total.ensures, c.loop-block.invariant.sum, c.exact_sum-total.type_inv, c.sum_of_word.type_inv);
      few = omega (arith, lens, ap length step.selected, c.loop-block.invariant.few);
      range = range-as _ _ _ range (omega (arith, ints, c.exact_sum-total.ensures, c.exact_sum-total.type_inv, c.sum_of_word.type_inv));
    }
