use Rattle.std.proofs.Common.{ap, sym, ◌∙◌}
use Rattle.arrow2_model.specs.Lists.{falses}
use Rattle.arrow2_validity.proofs.ValidItems.{falses-items_none}
use Rattle.arrow2_validity.specs.OptionalValidity.{items_or_true, valid_items}
use Rattle.arrow2_validity.proofs.validity.Validity.null_count.Goals as goal

pub returns-in-None : goal.returns-in-None
returns-in-None c = falses-items_none c.self.inside.len ∙ (ap (λ b. falses (items_or_true c.self.inside.len b)) (sym c.in-None.is) ∙ ap (λ v. falses (valid_items v)) c.self.view_is)
