use Rattle.std.proofs.Common.{◌≡◌, ◌<◌, None, false, get_or, length, ap, sym, subst, ◌∙◌}
use Rattle.arrow2_validity.proofs.ValidItems.{item-none}
use Rattle.arrow2_validity.specs.OptionalValidity.{items_or_true, valid_items}
use Rattle.arrow2_validity.proofs.validity.Validity.is_valid.Goals as goal

pub returns-in-None : goal.returns-in-None
returns-in-None c =
    let n = c.self.inside.len in
    let same : items_or_true n None ≡ valid_items c.args.self.now = ap (items_or_true n) (sym c.in-None.is) ∙ ap valid_items c.self.view_is in
    item-none n c.args.index (subst (λ items. c.args.index < length items) (sym same) c.requires.below) ∙ ap (λ items. get_or items c.args.index false) same
