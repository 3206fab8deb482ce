use Rattle.std.proofs.Common.{◌≡◌, ◌∙◌, map, sym, pos, map-id}
use Rattle.arrow2_offset.specs.Offsets.{offsets_of, last_of_growing}
use Rattle.arrow2_offset.proofs.Growing.{list_up_to, tested_last}
use Rattle.arrow2_offset.proofs.convert.OffsetsI32TryFromOffsetsI64.try_from.Goals as goal
use Rattle.arrow2_offset.proofs.convert.OffsetsI32TryFromOffsetsI64.try_from.Goals.{After-as_slice}

pub narrow-requires : goal.narrow-requires
narrow-requires c =
    let o = c.args.offsets in
    let v = c.into_inner-offsets in
    let plain : v.result.items ≡ map pos (offsets_of o) = sym (map-id v.result.items) ∙ v.ensures.offsets in
    let within = tested_last (last_of_growing o) c.from.result c.last.result.now c.from.ensures c.last.ensures.value c.last.ensures.fits c.if-last-from.false in
    rw c.as_slice.ensures.value (list_up_to 2147483647 v.result.items o.start o.lengths plain within)

pub of_vec-requires : goal.of_vec-requires
of_vec-requires c = rw (map-id c.in_ok-narrow.narrow.items ∙ c.in_ok-narrow.ensures) (narrow-requires (goal.at.of_vec-requires c).After-as_slice)
