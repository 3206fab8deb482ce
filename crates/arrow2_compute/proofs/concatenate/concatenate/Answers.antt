use Rattle.std.proofs.Common.{Bor, ◌≡◌, ◌∙◌, ◌++◌, append_assoc, ap, subst, arith, IfOk, flat_map, take_all}
use Rattle.std.proofs.lemmas.Grind.{common_steps}
use Rattle.arrow2_primitive.specs.Primitive.{PrimitiveParts, primitive_items}
use Rattle.arrow2_compute.proofs.KernelLoops.{flat_map-more, joined-fits, part-whole}
use Rattle.arrow2_compute.proofs.concatenate.concatenate.Goals as goal

pub loop-array-preserved : goal.loop-array-preserved
loop-array-preserved g c =
    let before = c.loop-array.invariant in
    let index = c.loop-array.array-index in
    let more = flat_map-more (λ array. primitive_items array.now) c.args.others.now index c.array-item.result (c.loop-array-test.true) in
    grind (arith, common_steps, before, more, append_assoc)

-- what overflows is no more than all items
pub returns-in_err-extend_from_array-2-clause-overflow : goal.returns-in_err-extend_from_array-2-clause-overflow
returns-in_err-extend_from_array-2-clause-overflow g c =
    let array = c.array-item.result in
    let fits = joined-fits (λ (a : Bor (PrimitiveParts g.row.T.Denot)). primitive_items a.now) (primitive_items c.args.first.now) _ c.args.others.now c.loop-array.array-index array c.loop-array-test.true c.loop-array.invariant.items in
    let whole = part-whole (primitive_items array.now) c.len-in-loop-array.result c.len-in-loop-array.ensures.items in
    grind (arith, common_steps, fits, whole)

pub returns-clause-items : goal.returns-clause-items
returns-clause-items g c =
    let all = c.loop-array.invariant.items ∙ ap (λ arrays. primitive_items c.args.first.now ++ flat_map (λ array. primitive_items array.now) arrays) (take_all c.loop-array.array-index c.args.others.now c.loop-array-test.false) in
    subst (λ z. IfOk c.freeze.result (λ a. primitive_items a ≡ z)) all c.freeze.ensures.items
