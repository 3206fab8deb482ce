use Rattle.std.proofs.Common.{◌+◌, ◌≤◌, length, drop, ap, sym, ◌∙◌, arith}
use Rattle.arrow2_model.specs.Lists.{buffer_items}
use Rattle.arrow2_model.proofs.Parts.{length-part}
use Rattle.arrow2_offset.specs.Offsets.{lengths_of, start_of}
use Rattle.arrow2_validity.specs.OptionalValidity.{valid_items}
use Rattle.arrow2_text.specs.Binary.{binary_items}
use Rattle.arrow2_text.proofs.SlotLists.{last-part, length-slots}
use Rattle.arrow2_text.proofs.slots.Slots.slice.Goals as goal

pub invariant_of-self : goal.invariant_of-self
invariant_of-self g c =
    let numbers = buffer_items c.self.inside.offsets in
    let ns = lengths_of numbers in
    let after = c.slice_slots.ensures in
    let long = length-slots (drop (start_of numbers) (buffer_items c.self.inside.values)) ns (valid_items c.self.inside.validity) c.self.invariant.1 in
    let same = ap (λ a. length (binary_items a)) c.self.view_is in
    let inside : c.args.start + c.args.len ≤ length ns = omega (arith, long, same, c.requires.inside) in (
      last-part (start_of numbers) ns c.args.start c.args.len _ _ _ after.first after.lengths c.self.invariant.0,
      c.slice.ensures.len ∙ sym (ap length after.lengths ∙ length-part ns c.args.start c.args.len inside),
    )
