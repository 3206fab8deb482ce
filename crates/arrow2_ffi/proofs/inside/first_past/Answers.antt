use Rattle.std.proofs.Common.{◌≡◌, ◌-◌, length, map, sym, arith, below_more, pos, ◌≤ℤ◌, slice_index_or}
use Rattle.std.proofs.lemmas.Int.{ints}
use Rattle.std.proofs.lemmas.List.{get_or-map, length-map}
use Rattle.arrow2_offset.specs.Offsets.{last_of}
use Rattle.arrow2_offset.proofs.Appending.{value_natural}
use Rattle.arrow2_offset.proofs.OffsetLists.{get_or-last}
use Rattle.arrow2_ffi.proofs.inside.first_past.Goals as goal

pub as_usize-requires : goal.as_usize-requires
as_usize-requires g c = value_natural g.O.Number.value c.args.offsets.now c.index-offsets-index.result c.loop-index.index c.requires.valid (omega (arith, c.loop-index-test.true)) c.index-offsets-index.is

pub loop-index-preserved : goal.loop-index-preserved
loop-index-preserved g c =
    let v = g.O.Number.value in
    let items = c.args.offsets.now in
    let i = c.loop-index.index in
    let at-most : pos c.as_usize.result ≤ℤ pos c.args.items = omega (arith, ints, c.if-as_usize-items.false) in
    let here : slice_index_or (map v items) i (pos 0) ≤ℤ pos c.args.items =
    rw (get_or-map v items i c.index-offsets-index.result (pos 0) (omega (arith, c.loop-index-test.true)), ← c.index-offsets-index.is, ← c.as_usize.ensures.value) at-most in
    below_more _ _ c.loop-index.invariant here

pub returns : goal.returns
returns g c =
    let v = g.O.Number.value in
    let items = c.args.offsets.now in
    let m = length-map items v in
    let some = c.requires.valid.some in
    let last : slice_index_or (map v items) (length items - 1) (pos 0) ≡ pos (last_of (map v items)) = get_or-last (map v items) (length items) c.requires.valid (sym m) in
    record {
      inside = omega (arith, m, some);
      before = λ j h. c.loop-index.invariant j (omega (arith, h, c.loop-index-test.false));
      past = rw last (omega (arith, ints, c.requires.past));
    }
