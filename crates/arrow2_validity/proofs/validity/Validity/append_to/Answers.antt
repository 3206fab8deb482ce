use Rattle.std.proofs.Common.{◌≡◌, ◌+◌, ◌≤◌, None, length, ap, sym, subst, ◌∙◌}
use Rattle.arrow2_model.specs.Lists.{items_of}
use Rattle.arrow2_validity.proofs.ValidItems.{items-none, items-some, part-items_none}
use Rattle.arrow2_validity.specs.OptionalValidity.{items_or_true, valid_items}
use Rattle.arrow2_validity.proofs.validity.Validity.append_to.Goals as goal

pub append_part-requires : goal.append_part-requires
append_part-requires c =
    let n = c.self.inside.len in
    let same : items_of c.in-Some.bitmap ≡ valid_items c.args.self.now = sym (items-some n c.in-Some.bitmap) ∙ (ap (items_or_true n) (sym c.in-Some.is) ∙ ap valid_items c.self.view_is) in
    record { inside = subst (λ items. c.args.start + c.args.len ≤ length items) (sym same) c.requires.inside }

pub returns-in-Some : goal.returns-in-Some
returns-in-Some c =
    let n = c.self.inside.len in
    let same : items_of c.in-Some.bitmap ≡ valid_items c.args.self.now = sym (items-some n c.in-Some.bitmap) ∙ (ap (items_or_true n) (sym c.in-Some.is) ∙ ap valid_items c.self.view_is) in
    rw (← same) c.append_part.ensures

pub returns-in-None : goal.returns-in-None
returns-in-None c =
    let n = c.self.inside.len in
    let same : items_or_true n None ≡ valid_items c.args.self.now = ap (items_or_true n) (sym c.in-None.is) ∙ ap valid_items c.self.view_is in
    let whole = part-items_none n c.args.start c.args.len (subst (λ items. c.args.start + c.args.len ≤ length items) (sym same) c.requires.inside) in
    rw (← same, ← whole, items-none c.args.len) c.extend_constant.ensures
