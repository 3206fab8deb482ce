use Rattle.std.proofs.Common.{◌≡◌, ◌∷◌, [], Bool, length, ap, sym, ◌∙◌, arith, ◌&&◌}
use Rattle.std.specs.Simd.Lanes.{zip2}
use Rattle.arrow2_array.specs.Items.{boolean_items}
use Rattle.arrow2_model.specs.Lists.{items_of}
use Rattle.arrow2_model.specs.Tables.{answer}
use Rattle.arrow2_validity.specs.OptionalValidity.{valid_items}
use Rattle.arrow2_walks.specs.Zipped.{zipped}
use Rattle.arrow2_numeric.specs.Pairs.{of_both}
use Rattle.arrow2_numeric.proofs.Pairs.{both-zipped, each-and}
use Rattle.arrow2_compute.proofs.Comparisons.{each-pair}
use Rattle.arrow2_compute.proofs.comparison.boolean.compare_pairs.Goals as goal

pub returns-clause-items : goal.returns-clause-items
returns-clause-items c =
    let test = λ (left right : Bool). answer c.args.table (left ∷ right ∷ []) in
    let xs = items_of c.values.result.now in
    let ys = items_of c.values-2.result.now in
    let vs = valid_items c.optional_validity.result.now in
    let ws = valid_items c.optional_validity-2.result.now in
    let long : length xs ≡ length ys = omega (arith, c.values.ensures.len, c.values-2.ensures.len, c.requires.same_length) in
    let known : length vs ≡ length ws = omega (arith, c.optional_validity.ensures.len, c.optional_validity-2.ensures.len, c.requires.same_length) in
    let left : zipped xs vs ≡ boolean_items c.args.lhs.now = ap (λ b. zipped (items_of b) vs) c.values.ensures.value ∙ c.optional_validity.ensures.zipped in
    let right : zipped ys ws ≡ boolean_items c.args.rhs.now = ap (λ b. zipped (items_of b) ws) c.values-2.ensures.value ∙ c.optional_validity-2.ensures.zipped in
    let made : items_of c.in_ok-tested.tested ≡ zip2 test xs ys = c.in_ok-tested.ensures.items ∙ each-pair c.args.table xs ys long in
    let valid : valid_items c.in_ok-validity.validity ≡ zip2 ◌&&◌ vs ws = c.in_ok-validity.ensures.items ∙ each-and vs ws known in
    ap boolean_items c.from_parts.ensures
    ∙ (ap (λ items. zipped items (valid_items c.in_ok-validity.validity)) made
    ∙ (ap (zipped (zip2 test xs ys)) valid
    ∙ (sym (both-zipped test xs ys vs ws)
    ∙ (ap (λ l. zip2 (of_both test) l (zipped ys ws)) left ∙ ap (zip2 (of_both test) (boolean_items c.args.lhs.now)) right))))
