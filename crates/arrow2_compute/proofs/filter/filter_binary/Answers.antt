use Rattle.std.proofs.Common.{◌∙◌, length, sum, ap, sym, subst}
use Rattle.arrow2_model.specs.Lists.{buffer_items, items_of}
use Rattle.arrow2_offset.specs.Offsets.{lengths_of}
use Rattle.arrow2_text.specs.Binary.{IsCompact, binary_items}
use Rattle.arrow2_walks.specs.Selections.{selection}
use Rattle.arrow2_compute.proofs.FilteredSlots.{bits-kept, compact-kept, filtered, items-kept, mask-known, mask-slots}
use Rattle.arrow2_compute.proofs.filter.filter_binary.Goals as goal

pub selected_validity-requires : goal.selected_validity-requires
selected_validity-requires g c =
    let read = c.optional_validity.ensures in
    record { same_length = mask-slots c.args.array.now _ _ c.requires.same_length read.value read.slots ∙ sym read.slots }

pub selected_slots-requires : goal.selected_slots-requires
selected_slots-requires g c =
    let read = c.optional_validity.ensures in
    record { same_length = mask-known c.args.array.now _ _ c.requires.same_length read.value read.slots _ c.in_ok-without_validity.ensures.value }

pub with_validity-requires : goal.with_validity-requires
with_validity-requires g c =
    let read = c.optional_validity.ensures in
    let also = c.optional_validity-2.ensures in
    let valid = c.in_ok-validity.ensures in
    let kept = filtered c.args.array.now _ c.in_ok-kept.kept _ _ _ _ c.requires.same_length read.value read.slots c.in_ok-without_validity.ensures.value c.in_ok-kept.ensures.items also.value also.slots valid.items valid.len in
    record { same_length = bits-kept _ _ _ _ kept _ c.into_null_bitmap.ensures.items }

pub returns-clause-items : goal.returns-clause-items
returns-clause-items g c =
    let read = c.optional_validity.ensures in
    let also = c.optional_validity-2.ensures in
    let valid = c.in_ok-validity.ensures in
    let kept = filtered c.args.array.now _ c.in_ok-kept.kept _ _ _ _ c.requires.same_length read.value read.slots c.in_ok-without_validity.ensures.value c.in_ok-kept.ensures.items also.value also.slots valid.items valid.len in
    ap binary_items c.with_validity.ensures ∙ items-kept _ _ _ _ kept _ c.into_null_bitmap.ensures.items

pub returns-clause-compact : goal.returns-clause-compact
returns-clause-compact g c =
    let read = c.optional_validity.ensures in
    let also = c.optional_validity-2.ensures in
    let valid = c.in_ok-validity.ensures in
    let null = c.into_null_bitmap.ensures in
    let kept = filtered c.args.array.now _ c.in_ok-kept.kept _ _ _ _ c.requires.same_length read.value read.slots c.in_ok-without_validity.ensures.value c.in_ok-kept.ensures.items also.value also.slots valid.items valid.len in
    subst (λ p. IsCompact p) (sym c.with_validity.ensures) (compact-kept _ _ _ _ kept _ null.items valid.packed null.value null.none c.in_ok-kept.ensures.compact)

pub returns-clause-bytes : goal.returns-clause-bytes
returns-clause-bytes g c =
    let ms = items_of c.args.mask.now in
    ap (λ p. length (buffer_items p.values)) c.with_validity.ensures
    ∙ (c.in_ok-kept.ensures.bytes ∙ ap (λ p. sum (selection (lengths_of (buffer_items p.offsets)) ms)) c.in_ok-without_validity.ensures.value)
