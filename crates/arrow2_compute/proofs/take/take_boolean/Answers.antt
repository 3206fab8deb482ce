use Rattle.std.proofs.Common.{◌≡◌, ◌∙◌, ℕ, ◌<◌, All, None, false, length, map, get_or, ap, sym, subst, arith}
use Rattle.arrow2_array.specs.Items.{boolean_items}
use Rattle.arrow2_model.specs.Lists.{items_of}
use Rattle.arrow2_validity.specs.OptionalValidity.{valid_items}
use Rattle.arrow2_walks.specs.Zipped.{zipped}
use Rattle.arrow2_compute.proofs.ItemsAtIndices.{stand-there, taken-zipped}
use Rattle.arrow2_compute.proofs.take.take_boolean.Goals as goal

pub returns-clause-items : goal.returns-clause-items
returns-clause-items c =
    let v = c.in_ok-validity.validity in
    let indices = c.args.indices.now in
    let items = boolean_items c.args.array.now in
    let bits = items_of c.values.result.now in
    let valid = valid_items c.optional_validity.result.now in
    let sized : length valid ≡ length bits = omega (arith, c.optional_validity.ensures.len, c.values.ensures.len) in
    let inside = subst (λ (n : ℕ). All (λ (index : ℕ). index < n) indices) (sym c.values.ensures.len) c.requires.inside in
    let whole : zipped bits valid ≡ items = ap (λ b. zipped (items_of b) valid) c.values.ensures.value ∙ c.optional_validity.ensures.zipped in
    ap boolean_items c.from_parts.ensures
    ∙ (ap (zipped (items_of c.in_ok-values.values)) c.in_ok-validity.ensures.items
    ∙ (ap (λ xs. zipped xs (map (λ (index : ℕ). get_or valid index false) indices)) c.in_ok-values.ensures.items
    ∙ (taken-zipped bits valid indices (map (λ (index : ℕ). get_or bits index false) indices) sized inside (stand-there bits false indices inside)
    ∙ ap (λ l. map (λ (index : ℕ). get_or l index None) indices) whole)))
