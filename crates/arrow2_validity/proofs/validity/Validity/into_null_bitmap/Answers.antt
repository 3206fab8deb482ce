use Rattle.std.proofs.Common.{◌≡◌, ◌∙◌, ap, sym, Some}
use Rattle.std.proofs.lemmas.Option.{IfSome_then}
use Rattle.arrow2_model.specs.Lists.{items_of}
use Rattle.arrow2_validity.specs.OptionalValidity.{items_or_true, valid_items}
use Rattle.arrow2_validity.proofs.ValidItems.{items-some, left-out}
use Rattle.arrow2_validity.proofs.validity.Validity.into_null_bitmap.Goals as goal

pub returns-clause-items : goal.returns-clause-items
returns-clause-items c =
    let n = c.self.inside.len in
    let b = c.in_ok-bitmap.field-0 in
    let made = c.into_validity.result in
    let there : c.self.inside.bitmap ≡ Some b = c.in_ok-bitmap.was in
    let left = left-out n (items_of b) made (c.self.invariant b there) c.into_validity.ensures.none (IfSome_then made c.into_validity.ensures.value (λ m e. ap items_of e)) in
    ap (λ v. items_or_true v.len made) (sym c.self.view_is)
    ∙ (left ∙ (sym (items-some n b) ∙ (ap (items_or_true n) (sym there) ∙ ap valid_items c.self.view_is)))
