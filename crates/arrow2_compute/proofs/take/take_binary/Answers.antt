use Rattle.std.proofs.Common.{◌≡◌, ℕ, ◌+◌, ◌<◌, ◌≤◌, ◌^◌, None, length, map, take, ap, subst, ◌∙◌, arith, IfOk, slice_index_or, sum_by}
use Rattle.std.proofs.lemmas.Grind.{common_steps}
use Rattle.std.proofs.lemmas.List.{take_all, length-map, length-take}
use Rattle.arrow2_model.specs.Lists.{buffer_items}
use Rattle.arrow2_text.specs.Binary.{binary_items}
use Rattle.arrow2_compute.specs.Sizes.{item_bytes}
use Rattle.arrow2_compute.proofs.ByteCounts.{of-ok, taken-fits}
use Rattle.arrow2_compute.proofs.take.take_binary.Goals as goal

-- what overflows is no more than all items
pub returns-in_err-push_item-clause-overflow : goal.returns-in_err-push_item-clause-overflow
returns-in_err-push_item-clause-overflow g c =
    let items = λ (index : ℕ). slice_index_or (binary_items c.args.array.now) index None in
    let indices = c.args.indices.now in
    let position = c.loop-index.index-index in
    let taken = c.loop-index.taken in
    let few : length taken.items ≡ length (take position indices) = ap length c.loop-index.invariant.items ∙ length-map (take position indices) items in
    let counted : length taken.items + 1 < 2 ^ 64 = omega (arith, few, length-take position indices, c.loop-index-test.true) in
    let most = taken-fits item_bytes items indices position 0 c.loop-index-test.true in
    let bytes = c.loop-index.invariant.bytes ∙ ap (sum_by item_bytes) c.loop-index.invariant.items in
    grind (arith, common_steps, counted, most, bytes)

pub returns-clause-items : goal.returns-clause-items
returns-clause-items g c =
    let items = λ (index : ℕ). slice_index_or (binary_items c.args.array.now) index None in
    let all = c.loop-index.invariant.items ∙ ap (map items) (take_all c.loop-index.index-index c.args.indices.now c.loop-index-test.false) in
    subst (λ z. IfOk c.freeze.result (λ a. binary_items a ≡ z)) all c.freeze.ensures.items

pub returns-clause-bytes : goal.returns-clause-bytes
returns-clause-bytes g c =
    let items = λ (index : ℕ). slice_index_or (binary_items c.args.array.now) index None in
    let all = c.loop-index.invariant.items ∙ ap (map items) (take_all c.loop-index.index-index c.args.indices.now c.loop-index-test.false) in
    subst (λ n. IfOk c.freeze.result (λ a. length (buffer_items a.values) ≡ n)) (c.loop-index.invariant.bytes ∙ ap (sum_by item_bytes) all) c.freeze.ensures.bytes

pub returns-clause-fits : goal.returns-clause-fits
returns-clause-fits g c =
    let items = λ (index : ℕ). slice_index_or (binary_items c.args.array.now) index None in
    let all = c.loop-index.invariant.items ∙ ap (map items) (take_all c.loop-index.index-index c.args.indices.now c.loop-index-test.false) in
    let bytes = c.loop-index.invariant.bytes ∙ ap (sum_by item_bytes) all in
    of-ok c.freeze.result (sum_by item_bytes (map items c.args.indices.now) ≤ g.O.OffsetNumber.MAX) (omega (arith, bytes, c.loop-index.invariant.fits))
