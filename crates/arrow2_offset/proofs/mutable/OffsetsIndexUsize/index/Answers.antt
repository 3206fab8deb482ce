use Rattle.std.proofs.Common.{◌∙◌, ◌<◌, ap, arith, length, map, refl, pos}
use Rattle.arrow2_offset.specs.Offsets.{start_of, lengths_of, offset_at}
use Rattle.arrow2_offset.proofs.OffsetLists.{start_of-list}
use Rattle.arrow2_offset.proofs.Appending.{value_at}
use Rattle.arrow2_offset.proofs.Growing.{length_slots}
use Rattle.arrow2_offset.proofs.mutable.OffsetsIndexUsize.index.Given as given
use Rattle.arrow2_offset.proofs.mutable.OffsetsIndexUsize.index.Goals as goal
use Rattle.arrow2_offset.proofs.mutable.OffsetsIndexUsize.index.Goals.{After-as_slice}

-- there is an offset at the position
inside : (g : given.Over) → (c : After-as_slice g) → c.args.position < length c.as_slice.result.now
inside g c =
    let items = c.as_slice.result.now in
    let n = length_slots g.O.Number.value items (length items) c.as_slice.ensures.valid refl in
    let lengths = ap length c.as_slice.ensures.lengths in
    omega (arith, n, lengths, c.requires)

pub offset_bounds-as_slice-position : goal.offset_bounds-as_slice-position
offset_bounds-as_slice-position g c = omega (arith, inside g c)

pub bounds-as_slice-position : goal.bounds-as_slice-position
bounds-as_slice-position g c = inside g c

pub returns : goal.returns
returns g c =
    let items = c.as_slice.result.now in
    let o = c.args.self.now in
    let start = ap start_of c.as_slice.ensures.offsets ∙ start_of-list o.start o.lengths in
    value_at g.O.Number.value items c.index-as_slice-position.result c.args.position c.as_slice.ensures.valid (inside g (goal.at.returns g c).After-as_slice) c.index-as_slice-position.is
    ∙ (ap (λ s. pos (offset_at s (lengths_of (map g.O.Number.value items)) c.args.position)) start ∙ ap (λ ns. pos (offset_at o.start ns c.args.position)) c.as_slice.ensures.lengths)
