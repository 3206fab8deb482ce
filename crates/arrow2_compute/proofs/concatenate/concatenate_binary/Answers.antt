use Rattle.std.proofs.Common.{Bor, ◌≡◌, ◌∙◌, ◌+◌, ◌<◌, ◌≤◌, ◌^◌, ◌++◌, length, get_or, take, append_assoc, ap, subst, arith, IfOk, sum_by, flat_map}
use Rattle.std.proofs.lemmas.Grind.{common_steps}
use Rattle.std.proofs.lemmas.List.{take_all, take_more}
use Rattle.std.proofs.lemmas.List.Sums.{sum_by_push, sum_by-take-le}
use Rattle.arrow2_model.specs.Lists.{buffer_items}
use Rattle.arrow2_offset.specs.Offsets.{lengths_of}
use Rattle.arrow2_text.specs.Binary.{binary_items}
use Rattle.arrow2_compute.specs.Sizes.{slot_bytes}
use Rattle.arrow2_compute.proofs.KernelLoops.{flat_map-more, joined-fits, part-whole}
use Rattle.arrow2_compute.proofs.ByteCounts.{of-ok}
use Rattle.arrow2_compute.proofs.concatenate.concatenate_binary.Goals as goal

pub loop-array-preserved : goal.loop-array-preserved
loop-array-preserved g c =
    let before = c.loop-array.invariant in
    let index = c.loop-array.array-index in
    let others = c.args.others.now in
    let size = λ (array : Bor _). slot_bytes array.now in
    let more = flat_map-more (λ array. binary_items array.now) others index c.array-item.result c.loop-array-test.true in
    let heavier = ap (sum_by size) (take_more others index c.array-item.result c.loop-array-test.true) ∙ sum_by_push size (take index others) (get_or others index c.array-item.result) in
    grind (arith, common_steps, before, more, heavier, append_assoc)

-- what overflows is no more than all items
pub returns-in_err-extend_from_array-2-clause-overflow : goal.returns-in_err-extend_from_array-2-clause-overflow
returns-in_err-extend_from_array-2-clause-overflow g c =
    let others = c.args.others.now in
    let index = c.loop-array.array-index in
    let array = c.array-item.result in
    let size = λ (a : Bor _). slot_bytes a.now in
    let count = c.count in
    let fits = joined-fits (λ (a : Bor _). binary_items a.now) (binary_items c.args.first.now) _ others index array c.loop-array-test.true c.loop-array.invariant.items in
    let whole = part-whole (binary_items array.now) count.result count.ensures.items in
    let heavier = ap (sum_by size) (take_more others index array c.loop-array-test.true) ∙ sum_by_push size (take index others) (get_or others index array) in
    let most = sum_by-take-le size others (index + 1) in
    let bytes = c.loop-array.invariant.bytes in
    let slots = part-whole (lengths_of (buffer_items array.now.offsets)) count.result count.ensures.slots in
    grind (arith, common_steps, fits, whole, heavier, most, bytes, slots)

pub returns-clause-items : goal.returns-clause-items
returns-clause-items g c =
    let items = λ (array : Bor _). binary_items array.now in
    let all = c.loop-array.invariant.items ∙ ap (λ arrays. binary_items c.args.first.now ++ flat_map items arrays) (take_all c.loop-array.array-index c.args.others.now c.loop-array-test.false) in
    subst (λ z. IfOk c.freeze.result (λ a. binary_items a ≡ z)) all c.freeze.ensures.items

pub returns-clause-bytes : goal.returns-clause-bytes
returns-clause-bytes g c =
    let size = λ (array : Bor _). slot_bytes array.now in
    let all = c.loop-array.invariant.bytes ∙ ap (λ arrays. slot_bytes c.args.first.now + sum_by size arrays) (take_all c.loop-array.array-index c.args.others.now c.loop-array-test.false) in
    subst (λ n. IfOk c.freeze.result (λ a. length (buffer_items a.values) ≡ n)) all c.freeze.ensures.bytes

pub returns-clause-fits : goal.returns-clause-fits
returns-clause-fits g c =
    let first = c.args.first.now in
    let others = c.args.others.now in
    let items = λ (array : Bor _). binary_items array.now in
    let size = λ (array : Bor _). slot_bytes array.now in
    let last = c.loop-array.invariant in
    let whole = take_all c.loop-array.array-index others c.loop-array-test.false in
    let bytes = last.bytes ∙ ap (λ arrays. slot_bytes first + sum_by size arrays) whole in
    let count = ap length (last.items ∙ ap (λ arrays. binary_items first ++ flat_map items arrays) whole) in
    of-ok c.freeze.result ((slot_bytes first + sum_by size others ≤ g.O.OffsetNumber.MAX) × (length (binary_items first ++ flat_map items others) < 2 ^ 64))
    (omega (arith, bytes, last.fits), omega (arith, count, last.counted))
