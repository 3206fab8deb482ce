use Rattle.std.proofs.Common.{◌≡◌, ◌∙◌, length, ap, arith}
use Rattle.arrow2_array.specs.Items.{boolean_items}
use Rattle.arrow2_model.specs.Lists.{items_of}
use Rattle.arrow2_validity.specs.OptionalValidity.{valid_items}
use Rattle.arrow2_walks.specs.Selections.{choice}
use Rattle.arrow2_walks.specs.Zipped.{zipped}
use Rattle.arrow2_compute.proofs.Choices.{chosen-zipped, length-all_chosen}
use Rattle.arrow2_compute.proofs.if_then_else.if_then_else_boolean.Goals as goal

pub from_parts-requires : goal.from_parts-requires
from_parts-requires c =
    let ms = items_of c.args.mask.now in
    let vs = valid_items c.optional_validity.result.now in
    let ws = valid_items c.optional_validity-2.result.now in
    let n = length-all_chosen ms vs ws (omega (arith, c.optional_validity.ensures.len, c.requires.left)) (omega (arith, c.optional_validity-2.ensures.len, c.requires.right)) in
    record { same_length = omega (arith, n, ap length c.in_ok-validity.ensures.items, c.in_ok-values.ensures.len) }

pub returns-clause-items : goal.returns-clause-items
returns-clause-items c =
    let ms = items_of c.args.mask.now in
    let xs = items_of c.values.result.now in
    let ys = items_of c.values-2.result.now in
    let vs = valid_items c.optional_validity.result.now in
    let ws = valid_items c.optional_validity-2.result.now in
    let left : zipped xs vs ≡ boolean_items c.args.lhs.now = ap (λ b. zipped (items_of b) vs) c.values.ensures.value ∙ c.optional_validity.ensures.zipped in
    let right : zipped ys ws ≡ boolean_items c.args.rhs.now = ap (λ b. zipped (items_of b) ws) c.values-2.ensures.value ∙ c.optional_validity-2.ensures.zipped in
    let apart = chosen-zipped ms xs ys vs ws (omega (arith, c.values.ensures.len, c.optional_validity.ensures.len)) (omega (arith, c.values-2.ensures.len, c.optional_validity-2.ensures.len)) in
    ap boolean_items c.from_parts.ensures
    ∙ (ap (zipped (items_of c.in_ok-values.values)) c.in_ok-validity.ensures.items
    ∙ (ap (λ l. zipped l (choice ms vs ws)) c.in_ok-values.ensures.items
    ∙ (apart ∙ (ap (λ l. choice ms l (zipped ys ws)) left ∙ ap (choice ms (boolean_items c.args.lhs.now)) right))))
