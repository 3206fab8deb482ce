use Rattle.std.proofs.Common.{◌∙◌, List, Bool, false, length, map, get_or, ap, sym}
use Rattle.arrow2_validity.specs.OptionalValidity.{valid_items}
use Rattle.arrow2_validity.proofs.ValidItems.{items-some}
use Rattle.arrow2_compute.proofs.ItemsAtIndices.{taken-true}
use Rattle.arrow2_compute.proofs.take.validity_at.Goals as goal

-- without a bitmap all are true
pub returns-in_default-clause-items : goal.returns-in_default-clause-items
returns-in_default-clause-items c =
    let there = λ (vs : List Bool). map (λ index. get_or vs index false) c.args.indices.now in
    c.all_valid.ensures.items ∙ sym (ap there c.in_default.ensures.items ∙ taken-true (length (valid_items c.args.validity.now)) c.args.indices.now c.requires.inside)

pub returns-clause-items : goal.returns-clause-items
returns-clause-items c =
    let there = λ (vs : List Bool). map (λ index. get_or vs index false) c.args.indices.now in
    ap valid_items c.new.ensures.value ∙ (items-some _ c.in_ok-bits_at.field-0 ∙ (c.in_ok-bits_at.ensures.items ∙ ap there c.in-Some.ensures.items))
