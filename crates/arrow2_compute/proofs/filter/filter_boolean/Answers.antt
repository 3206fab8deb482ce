use Rattle.std.proofs.Common.{◌≡◌, ◌∙◌, length, ap, sym, arith}
use Rattle.arrow2_array.specs.Items.{boolean_items}
use Rattle.arrow2_model.specs.Lists.{items_of}
use Rattle.arrow2_validity.specs.OptionalValidity.{valid_items}
use Rattle.arrow2_walks.specs.Selections.{selection}
use Rattle.arrow2_walks.specs.Zipped.{zipped}
use Rattle.arrow2_walks.proofs.Selections.{count-selected}
use Rattle.arrow2_numeric.proofs.Selecting.{selected-zipped}
use Rattle.arrow2_compute.proofs.filter.filter_boolean.Goals as goal

pub from_parts-requires : goal.from_parts-requires
from_parts-requires c =
    let mask = items_of c.args.mask.now in
    let m = count-selected (items_of c.values.result.now) mask (omega (arith, c.values.ensures.len, c.requires.same_length)) in
    let n = count-selected (valid_items c.optional_validity.result.now) mask (omega (arith, c.optional_validity.ensures.len, c.requires.same_length)) in
    record { same_length = omega (arith, ap length c.in_ok-values.ensures.items, ap length c.in_ok-validity.ensures.items, m, n) }

pub returns-clause-items : goal.returns-clause-items
returns-clause-items c =
    let mask = items_of c.args.mask.now in
    let bits = items_of c.values.result.now in
    let valid = valid_items c.optional_validity.result.now in
    let sized : length valid ≡ length bits = omega (arith, c.optional_validity.ensures.len, c.values.ensures.len) in
    let whole : zipped bits valid ≡ boolean_items c.args.array.now = ap (λ b. zipped (items_of b) valid) c.values.ensures.value ∙ c.optional_validity.ensures.zipped in
    ap boolean_items c.from_parts.ensures
    ∙ (ap (zipped (items_of c.in_ok-values.values)) c.in_ok-validity.ensures.items
    ∙ (ap (λ xs. zipped xs (selection valid mask)) c.in_ok-values.ensures.items
    ∙ (sym (selected-zipped bits valid mask sized) ∙ ap (λ l. selection l mask) whole)))
