use Rattle.std.proofs.Common.{ℕ, List, map, get_or, arith}
use Rattle.std.proofs.lemmas.List.{length-set, length-map}
use Rattle.arrow2_offset.specs.Offsets.{lengths_of}
use Rattle.arrow2_offset.proofs.ItemWrites.{one_more}
use Rattle.arrow2_offset.proofs.SliceSteps.{all_lengths, between}
use Rattle.arrow2_offset.proofs.slices.write_lengths.Goals as goal

pub distance-requires : goal.distance-requires
distance-requires g c = (between g.O.Number.value c.args.offsets.now c.index-offsets-i.result c.index-offsets-i-in-loop-i.result c.loop-i.i c.requires.valid (omega (arith, c.loop-i-test.true, c.loop-i.invariant.exact)) c.index-offsets-i.is c.index-offsets-i-in-loop-i.is).0

pub loop-i-preserved : goal.loop-i-preserved
loop-i-preserved g c =
    let i : ℕ = c.loop-i.i in
    let d : ℕ = c.distance.result in
    let lengths : List ℕ = c.loop-i.lengths in
    let l = length-set lengths i d in
    let is = (between g.O.Number.value c.args.offsets.now c.index-offsets-i.result c.index-offsets-i-in-loop-i.result i c.requires.valid (omega (arith, c.loop-i-test.true, c.loop-i.invariant.exact)) c.index-offsets-i.is c.index-offsets-i-in-loop-i.is).1 d c.distance.ensures in
    record {
      exact = omega (arith, l, c.loop-i.invariant.exact);
      done = one_more lengths (λ k. get_or (lengths_of (map g.O.Number.value c.args.offsets.now)) k 0) 0 i d (omega (arith, c.loop-i-test.true)) is c.loop-i.invariant.done;
    }

pub returns : goal.returns
returns g c =
    let m = length-map c.args.offsets.now g.O.Number.value in
    all_lengths (map g.O.Number.value c.args.offsets.now) c.loop-i.lengths c.requires.valid (omega (arith, m, c.loop-i.invariant.exact)) (λ k h. c.loop-i.invariant.done k (omega (arith, h, c.loop-i-test.false)))
