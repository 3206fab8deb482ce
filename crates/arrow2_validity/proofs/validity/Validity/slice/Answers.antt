use Rattle.std.proofs.Common.{◌≡◌, ◌+◌, ◌≤◌, None, length, ap, sym, subst, ◌∙◌}
use Rattle.arrow2_model.specs.Lists.{part, items_of}
use Rattle.arrow2_model.proofs.Parts.{length-part}
use Rattle.arrow2_validity.proofs.ValidItems.{items-some, part-items_none}
use Rattle.arrow2_validity.specs.OptionalValidity.{items_or_true, valid_items}
use Rattle.arrow2_validity.proofs.validity.Validity.slice.Goals as goal
use Rattle.arrow2_validity.proofs.validity.Validity.slice.Goals.{in-Some, in_default}

pub returns-clause-items : goal.returns-clause-items
returns-clause-items c = elim c.match-self.branch [
  | in-Some w ↦
      let n = c.self.inside.len in
      let same : items_of w.in-Some.bitmap ≡ valid_items c.args.self.now = sym (items-some n w.in-Some.bitmap) ∙ (ap (items_or_true n) (sym w.in-Some.is) ∙ ap valid_items c.self.view_is) in
      rw w.self-inside-is (items-some c.args.len w.slice.new.self ∙ (w.slice.ensures.items ∙ ap (λ items. part items c.args.offset c.args.len) same))
  | in_default w ↦
      let n = c.self.inside.len in
      let same : items_or_true n None ≡ valid_items c.args.self.now = ap (items_or_true n) (sym w.in_default.is) ∙ ap valid_items c.self.view_is in
      rw w.self-inside-is (ap (items_or_true c.args.len) w.in_default.is ∙ (part-items_none n c.args.offset c.args.len (subst (λ items. c.args.offset + c.args.len ≤ length items) (sym same) c.requires.inside) ∙ ap (λ items. part items c.args.offset c.args.len) same))
]

pub returns-clause-len : goal.returns-clause-len
returns-clause-len c = ap length (returns-clause-items c) ∙ length-part (valid_items c.args.self.now) c.args.offset c.args.len c.requires.inside
