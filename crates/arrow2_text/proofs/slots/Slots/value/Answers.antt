use Rattle.std.proofs.Common.{◌≡◌, [], length, drop, get_or, ap, sym, ◌∙◌, Some}
use Rattle.arrow2_model.specs.Lists.{buffer_items}
use Rattle.arrow2_offset.specs.Offsets.{lengths_of, start_of}
use Rattle.arrow2_offset.proofs.NestedLists.{length-cut}
use Rattle.arrow2_utf8.specs.Texts.{slot_values}
use Rattle.arrow2_validity.specs.OptionalValidity.{valid_items}
use Rattle.arrow2_walks.specs.Zipped.{zipped}
use Rattle.arrow2_text.specs.Binary.{binary_items, binary_values}
use Rattle.arrow2_text.proofs.SlotItems.{some-item}
use Rattle.arrow2_text.proofs.slots.Slots.value.Goals as goal

pub returns-clause-item : goal.returns-clause-item
returns-clause-item g c =
    let numbers = buffer_items c.self.inside.offsets in
    let bytes = buffer_items c.self.inside.values in
    let xs = slot_values numbers bytes in
    let vs = valid_items c.self.inside.validity in
    let e : length vs ≡ length xs = c.self.invariant.1 ∙ sym (length-cut (drop (start_of numbers) bytes) (lengths_of numbers)) in
    let is : zipped xs vs ≡ binary_items c.args.self.now = ap binary_items c.self.view_is in
    let values : xs ≡ binary_values c.args.self.now = ap binary_values c.self.view_is in
    λ some. some-item xs vs (binary_items c.args.self.now) c.args.index [] e is c.requires.below some ∙ ap (λ x. Some x) (ap (λ ys. get_or ys c.args.index []) values ∙ sym c.bytes_at.ensures)
