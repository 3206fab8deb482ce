use Rattle.std.proofs.Common.{length, drop, ap, sym, ◌∙◌}
use Rattle.arrow2_model.specs.Lists.{buffer_items}
use Rattle.arrow2_offset.specs.Offsets.{lengths_of, start_of}
use Rattle.arrow2_offset.proofs.NestedLists.{length-cut}
use Rattle.arrow2_validity.specs.OptionalValidity.{valid_items}
use Rattle.arrow2_text.specs.Binary.{binary_items, binary_values}
use Rattle.arrow2_text.proofs.SlotLists.{length-slots}
use Rattle.arrow2_text.proofs.slots.Slots.len.Goals as goal

pub returns-clause-items : goal.returns-clause-items
returns-clause-items g c =
    let numbers = buffer_items c.self.inside.offsets in
    let slots = length-slots (drop (start_of numbers) (buffer_items c.self.inside.values)) (lengths_of numbers) (valid_items c.self.inside.validity) c.self.invariant.1 in
    c.len_proxy.ensures.slots ∙ (sym slots ∙ ap (λ a. length (binary_items a)) c.self.view_is)

pub returns-clause-values : goal.returns-clause-values
returns-clause-values g c =
    let numbers = buffer_items c.self.inside.offsets in
    c.len_proxy.ensures.slots ∙ (sym (length-cut (drop (start_of numbers) (buffer_items c.self.inside.values)) (lengths_of numbers)) ∙ ap (λ a. length (binary_values a)) c.self.view_is)

pub returns-clause-lengths : goal.returns-clause-lengths
returns-clause-lengths g c = c.len_proxy.ensures.slots ∙ ap (λ a. length (lengths_of (buffer_items a.offsets))) c.self.view_is

pub returns-clause-validity : goal.returns-clause-validity
returns-clause-validity g c = c.len_proxy.ensures.slots ∙ (sym c.self.invariant.1 ∙ ap (λ a. length (valid_items a.validity)) c.self.view_is)
