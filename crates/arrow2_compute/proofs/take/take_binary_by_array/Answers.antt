use Rattle.std.proofs.Common.{◌≡◌, ◌+◌, ◌<◌, ◌^◌, None, length, take, ap, ◌∙◌, arith, sum_by}
use Rattle.std.proofs.lemmas.Grind.{common_steps}
use Rattle.std.proofs.lemmas.List.{length-map, length-take}
use Rattle.arrow2_primitive.specs.Primitive.{primitive_items}
use Rattle.arrow2_text.specs.Binary.{binary_items}
use Rattle.arrow2_compute.specs.Sizes.{item_bytes}
use Rattle.arrow2_compute.specs.Take.{item_at}
use Rattle.arrow2_compute.proofs.ByteCounts.{taken-fits}
use Rattle.arrow2_compute.proofs.take.take_binary_by_array.Goals as goal

-- what overflows is no more than all items
pub returns-in_err-push_item_or_null-clause-overflow : goal.returns-in_err-push_item_or_null-clause-overflow
returns-in_err-push_item_or_null-clause-overflow g c =
    let items = item_at g.I.Number.value (binary_items c.args.array.now) in
    let indices = primitive_items c.args.indices.now in
    let position = c.loop-position.position in
    let taken = c.loop-position.taken in
    let less : position < length indices = omega (arith, c.loop-position-test.true, c.len-position-end.ensures.items) in
    let few : length taken.items ≡ length (take position indices) = ap length c.loop-position.invariant.items ∙ length-map (take position indices) items in
    let counted : length taken.items + 1 < 2 ^ 64 = omega (arith, few, length-take position indices, less, c.len-position-end.ensures.items) in
    let most = taken-fits item_bytes items indices position None less in
    let bytes = c.loop-position.invariant.bytes ∙ ap (sum_by item_bytes) c.loop-position.invariant.items in
    let there = ap (λ index. item_bytes (items index)) c.get.ensures in
    grind (arith, common_steps, counted, most, bytes, there)
