use Rattle.std.proofs.Common.{◌≡◌, List, Bool, count_by, length, ap, sym, ◌∙◌, subst, IfSome, ◌↔◌, IsNone, is_none}
use Rattle.arrow2_validity.specs.OptionalValidity.{valid_items}
use Rattle.arrow2_offset.proofs.NestedLists.{length-cut}
use Rattle.arrow2_text.specs.Binary.{BinaryParts, binary_items, binary_values, IsCompact}
use Rattle.arrow2_text.specs.Growth.{GrowingSlots}
use Rattle.arrow2_text.proofs.GrowthItems.{bitmap-there}
use Rattle.arrow2_validity.proofs.ValidItems.{left-out}
use Rattle.arrow2_text.proofs.SlotLists.{frozen-values, compact-slots, packed-alone}
use Rattle.std.proofs.Math.Seq.{take-length}
use Rattle.arrow2_model.specs.Lists.{buffer_items}
use Rattle.arrow2_bitmap.specs.PackedBitmaps.{IsPacked}
use Rattle.arrow2_text.proofs.growing.Growing.freeze.Goals as goal

pub returns-clause-valid : goal.returns-clause-valid
returns-clause-valid g c =
    let of_parts : BinaryParts → List Bool = λ s. valid_items s.validity in
    let of_growing : GrowingSlots → List Bool = λ s. s.valid in
    let validity = c.in_ok-into_validity in
    let count = c.len_proxy.ensures.slots ∙ (ap length c.in_ok-offsets.ensures.2 ∙ sym c.self.invariant.2) in
    ap of_parts c.new.ensures ∙ (ap valid_items c.new-validity.ensures.value
    ∙ (left-out c.len_proxy.result c.self.inside.validity.items validity.field-0 (sym count) validity.ensures.none validity.ensures.items
    ∙ ap of_growing c.self.view_is))

pub returns-clause-data_type : goal.returns-clause-data_type
returns-clause-data_type g c = ap (λ s. s.data_type) c.new.ensures ∙ ap (λ s. s.data_type) c.self.view_is

pub returns-clause-values : goal.returns-clause-values
returns-clause-values g c =
    let offsets = c.in_ok-offsets.ensures in
    ap binary_values c.new.ensures
    ∙ (frozen-values c.in_ok-offsets.offsets c.in_ok-values.values c.self.inside.values.items c.self.inside.offsets.lengths (offsets.1 ∙ c.self.invariant.0) offsets.2 c.in_ok-values.ensures
    ∙ ap (λ s. s.values) c.self.view_is)

pub returns-clause-bitmap : goal.returns-clause-bitmap
returns-clause-bitmap g c =
    let validity = c.in_ok-into_validity in
    let slots = length-cut c.self.inside.values.items c.self.inside.offsets.lengths in
    let same : length c.args.self.valid ≡ length c.args.self.values = ap (λ s. length s.valid) (sym c.self.view_is) ∙ (c.self.invariant.2 ∙ (sym slots ∙ ap (λ s. length s.values) c.self.view_is)) in
    bitmap-there c.new.result.validity.bitmap validity.field-0 c.args.self.values c.args.self.valid c.self.inside.validity.items same (ap (λ s. s.valid) (sym c.self.view_is))
    (ap (λ s. s.validity.bitmap) c.new.ensures ∙ ap (λ v. v.bitmap) c.new-validity.ensures.value) validity.ensures.none

pub returns-clause-compact : goal.returns-clause-compact
returns-clause-compact g c =
    let offsets = c.in_ok-offsets.ensures in
    let validity = c.in_ok-into_validity.ensures in
    let packed = subst (λ v. IfSome v.bitmap (λ b. IsPacked b)) (sym c.new-validity.ensures.value) (packed-alone c.in_ok-into_validity.field-0 c.self.inside.validity.items validity.items validity.storage) in
    let bitmap : IsNone c.new.result.validity.bitmap ↔ (count_by is_none (binary_items c.new.result) ≡ 0) = rw (returns-clause-values g c, returns-clause-valid g c) (returns-clause-bitmap g c) in
    subst (λ s. IsCompact s) (sym c.new.ensures) (compact-slots _ c.self.inside.values.items c.self.inside.offsets.lengths _ c.self.invariant.1 offsets.0 (offsets.1 ∙ c.self.invariant.0) offsets.2 c.in_ok-values.ensures packed
    (subst (λ s. IsNone s.validity.bitmap ↔ (count_by is_none (binary_items s) ≡ 0)) c.new.ensures bitmap))

pub returns-clause-bytes : goal.returns-clause-bytes
returns-clause-bytes g c =
    let xs = c.self.inside.values.items in
    ap (λ s. length (buffer_items s.values)) c.new.ensures
    ∙ (ap length (ap buffer_items c.in_ok-values.ensures ∙ take-length xs) ∙ ap (λ s. s.bytes) c.self.view_is)
