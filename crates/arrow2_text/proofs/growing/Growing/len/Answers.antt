use Rattle.std.proofs.Common.{length, ap, sym, ◌∙◌}
use Rattle.arrow2_offset.proofs.NestedLists.{length-cut}
use Rattle.arrow2_text.proofs.growing.Growing.len.Goals as goal

pub returns-clause-values : goal.returns-clause-values
returns-clause-values g c = c.len_proxy.ensures ∙ (sym (length-cut c.self.inside.values.items c.self.inside.offsets.lengths) ∙ ap (λ slots. length slots.values) c.self.view_is)

pub returns-clause-valid : goal.returns-clause-valid
returns-clause-valid g c = c.len_proxy.ensures ∙ (sym c.self.invariant.2 ∙ ap (λ slots. length slots.valid) c.self.view_is)
