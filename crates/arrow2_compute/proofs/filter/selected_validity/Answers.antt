use Rattle.std.proofs.Common.{◌≡◌, ◌∙◌, ◌-◌, length, replicate, true, ap, sym, arith}
use Rattle.std.proofs.lemmas.List.{length-replicate}
use Rattle.arrow2_model.specs.Lists.{items_of}
use Rattle.arrow2_validity.specs.OptionalValidity.{valid_items}
use Rattle.arrow2_validity.proofs.ValidItems.{items-some}
use Rattle.arrow2_walks.specs.Selections.{selection}
use Rattle.arrow2_walks.proofs.Selections.{count-selected}
use Rattle.arrow2_numeric.proofs.Selecting.{selected-true}
use Rattle.arrow2_compute.proofs.filter.selected_validity.Goals as goal

-- without a bitmap all are true
pub returns-in_default-clause-items : goal.returns-in_default-clause-items
returns-in_default-clause-items c =
    let mask = items_of c.args.mask.now in
    let n = length (valid_items c.args.validity.now) in
    let counted = count-selected (replicate n true) mask (c.requires.same_length ∙ sym (length-replicate n true)) in
    let many : c.len.result - c.unset_bits.result ≡ length (selection (replicate n true) mask) = omega (arith, counted, c.len.ensures.items, c.unset_bits.ensures) in
    c.all_valid.ensures.items ∙ (ap (λ k. replicate k true) many ∙ (sym (selected-true n mask) ∙ ap (λ vs. selection vs mask) (sym c.in_default.ensures.items)))

pub new-requires : goal.new-requires
new-requires c = record {
  same_length = λ x e.
      let same : c.in_ok-selected_bits.field-0 ≡ x = cc in
      let mask = items_of c.args.mask.now in
      let there = c.in_ok-selected_bits.ensures.items in
      let long = ap length c.in-Some.ensures.items in
      let counted = count-selected (items_of c.in-Some.bitmap.now) mask (omega (arith, long, c.requires.same_length)) in
      omega (arith, counted, ap length there, ap (λ b. length (items_of b)) same, c.len.ensures.items, c.unset_bits.ensures);
}

pub returns-clause-items : goal.returns-clause-items
returns-clause-items c =
    ap valid_items c.new.ensures.value ∙ (items-some _ c.in_ok-selected_bits.field-0 ∙ (c.in_ok-selected_bits.ensures.items ∙ ap (λ vs. selection vs (items_of c.args.mask.now)) c.in-Some.ensures.items))
