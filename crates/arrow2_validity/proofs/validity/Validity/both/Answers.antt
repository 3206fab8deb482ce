use Rattle.std.proofs.Common.{◌≡◌, None, [], ◌∷◌, length, ap, sym, ◌∙◌, rules}
use Rattle.arrow2_model.specs.Tables.{each}
use Rattle.arrow2_validity.proofs.ValidItems.{both-left, both-right, length-none}
use Rattle.arrow2_validity.specs.OptionalValidity.{items_or_true, valid_items}
use Rattle.arrow2_validity.proofs.validity.Validity.both.Goals as goal

pub returns-in_ok-clone-in-None-default-clause-items : goal.returns-in_ok-clone-in-None-default-clause-items
returns-in_ok-clone-in-None-default-clause-items c =
    let n = c.self.inside.len in
    let same : items_or_true n None ≡ valid_items c.args.self.now = ap (items_or_true n) (sym c.in-None-default.is-0) ∙ ap valid_items c.self.view_is in
    let others = valid_items c.args.other.now in
    let long : length others ≡ n = sym c.requires.same_length ∙ (sym (ap length same) ∙ length-none n) in
    let copy : c.in_ok-clone-in-None-default.field-0 ≡ c.args.other.now = search rules in
    ap valid_items copy ∙ (both-left n others long ∙ ap (λ items. each 8 (items ∷ others ∷ [])) same)

pub returns-in_ok-clone-in_default-None-clause-items : goal.returns-in_ok-clone-in_default-None-clause-items
returns-in_ok-clone-in_default-None-clause-items c =
    let n = c.other.inside.len in
    let same : items_or_true n None ≡ valid_items c.args.other.now = ap (items_or_true n) (sym c.in_default-None.is-1) ∙ ap valid_items c.other.view_is in
    let own = valid_items c.args.self.now in
    let long : length own ≡ n = c.requires.same_length ∙ (sym (ap length same) ∙ length-none n) in
    let copy : c.in_ok-clone-in_default-None.field-0 ≡ c.args.self.now = search rules in
    ap valid_items copy ∙ (both-right n own long ∙ ap (λ items. each 8 (own ∷ items ∷ [])) same)
