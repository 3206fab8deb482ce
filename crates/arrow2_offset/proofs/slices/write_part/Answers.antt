use Rattle.std.proofs.Common.{◌≡◌, ◌∙◌, ℕ, ◌-◌, List, map, length, ap, arith, ℤ, pos}
use Rattle.std.proofs.lemmas.List.{length-map, length-set}
use Rattle.arrow2_offset.specs.Offsets.{lengths_of, offset_at}
use Rattle.arrow2_model.specs.Lists.{part}
use Rattle.arrow2_offset.proofs.OffsetLists.{length-lengths_of}
use Rattle.arrow2_model.proofs.Parts.{length-part}
use Rattle.arrow2_offset.proofs.SliceSteps.{all_offsets, from_first, one_more_value, within_last}
use Rattle.arrow2_offset.proofs.slices.write_part.Goals as goal

pub distance-requires : goal.distance-requires
distance-requires g c = (from_first g.O.Number.value c.args.offsets.now c.index-offsets-from.result c.index-offsets-from-in-loop-i.result c.args.from c.loop-i.i (length c.args.out.now) c.requires.valid.0 (omega (arith, c.loop-i-test.true, c.loop-i.invariant.exact)) c.requires.inside c.index-offsets-from.is c.index-offsets-from-in-loop-i.is).0

pub usize_as-requires : goal.usize_as-requires
usize_as-requires g c =
    let value = g.O.Number.value in
    let n : ℕ = length c.args.out.now in
    let is : c.distance.result ≡ offset_at 0 (part (lengths_of (map value c.args.offsets.now)) c.args.from (n - 1)) c.loop-i.i = (from_first value c.args.offsets.now c.index-offsets-from.result c.index-offsets-from-in-loop-i.result c.args.from c.loop-i.i n c.requires.valid.0 (omega (arith, c.loop-i-test.true, c.loop-i.invariant.exact)) c.requires.inside c.index-offsets-from.is c.index-offsets-from-in-loop-i.is).1 c.distance.result c.distance.ensures in
    let most = within_last (map value c.args.offsets.now) c.args.from (n - 1) c.loop-i.i in
    (g.met.O.OffsetNumber.max_law c.distance.result).1 (omega (arith, is, most, c.requires.valid.1))

pub loop-i-preserved : goal.loop-i-preserved
loop-i-preserved g c =
    let value = g.O.Number.value in
    let i : ℕ = c.loop-i.i in
    let n : ℕ = length c.args.out.now in
    let out = c.loop-i.out in
    let x = c.usize_as.result in
    let l = length-set out i x in
    let ns : List ℕ = part (lengths_of (map value c.args.offsets.now)) c.args.from (n - 1) in
    let is : c.distance.result ≡ offset_at 0 ns i = (from_first value c.args.offsets.now c.index-offsets-from.result c.index-offsets-from-in-loop-i.result c.args.from i n c.requires.valid.0 (omega (arith, c.loop-i-test.true, c.loop-i.invariant.exact)) c.requires.inside c.index-offsets-from.is c.index-offsets-from-in-loop-i.is).1 c.distance.result c.distance.ensures in
    record {
      exact = omega (arith, l, c.loop-i.invariant.exact);
      done = one_more_value value out (λ k. pos (offset_at 0 ns k)) i x (omega (arith, c.loop-i-test.true, c.loop-i.invariant.exact)) (c.usize_as.ensures ∙ ap pos is) c.loop-i.invariant.done;
    }

pub returns : goal.returns
returns g c =
    let value = g.O.Number.value in
    let xs : List ℤ = map value c.args.offsets.now in
    let n : ℕ = length c.args.out.now in
    let ns : List ℕ = part (lengths_of xs) c.args.from (n - 1) in
    let m = length-map c.loop-i.out value in
    let a = length-map c.args.offsets.now value in
    let b = length-lengths_of xs c.requires.valid.0 in
    let p = length-part (lengths_of xs) c.args.from (n - 1) (omega (arith, a, b, c.requires.some, c.requires.inside)) in
    all_offsets (map value c.loop-i.out) 0 ns (omega (arith, m, p, c.requires.some, c.loop-i.invariant.exact)) (λ k h. c.loop-i.invariant.done k (omega (arith, h, m, c.loop-i.invariant.exact, c.loop-i-test.false)))
