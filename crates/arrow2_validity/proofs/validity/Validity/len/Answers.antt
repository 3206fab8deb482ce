use Rattle.std.proofs.Common.{ap, sym, ◌∙◌, length}
use Rattle.arrow2_validity.proofs.ValidItems.{length-items}
use Rattle.arrow2_validity.specs.OptionalValidity.{valid_items}
use Rattle.arrow2_validity.proofs.validity.Validity.len.Goals as goal

pub returns-clause-items : goal.returns-clause-items
returns-clause-items c = sym (length-items c.self.inside.len c.self.inside.bitmap c.self.invariant) ∙ ap (λ v. length (valid_items v)) c.self.view_is
