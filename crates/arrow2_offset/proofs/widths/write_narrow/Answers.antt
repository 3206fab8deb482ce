use Rattle.std.proofs.Common.{◌≡◌, ◌∙◌, ℕ, List, get_or, ap, arith, to_z, of_z, w32, w64, ℤ, pos, FitsSigned, ext_get_or, length-set}
use Rattle.std.specs.Int as integers
use Rattle.std.proofs.lemmas.Int.{to_z-of_z}
use Rattle.arrow2_model.proofs.SignedNumbers.{below_fits}
use Rattle.arrow2_offset.proofs.Growing.{offset_within}
use Rattle.arrow2_offset.proofs.ItemWrites.{one_more}
use Rattle.arrow2_offset.proofs.widths.write_narrow.Goals as goal

pub overflow_cast-out : goal.overflow_cast-out
overflow_cast-out c =
    let w = offset_within 2147483647 c.args.offsets.now c.loop-i.i c.requires.fits (omega (arith, c.loop-i-test.true, c.requires.same_length)) in
    let wide : FitsSigned integers.w64 (pos w.0) = below_fits integers.w64 w.0 (omega (arith, w.2)) in
    rw (w.1, to_z-of_z integers.w64 (pos w.0) wide) (below_fits integers.w32 w.0 (omega (arith, w.2)))

pub loop-i-preserved : goal.loop-i-preserved
loop-i-preserved c =
    let i : ℕ = c.loop-i.i in
    let out : List ℤ = c.loop-i.out in
    let x : ℤ = get_or c.args.offsets.now i (pos 0) in
    let w = offset_within 2147483647 c.args.offsets.now i c.requires.fits (omega (arith, c.loop-i-test.true, c.requires.same_length)) in
    let wide : FitsSigned integers.w64 x = rw w.1 (below_fits integers.w64 w.0 (omega (arith, w.2))) in
    let narrow : FitsSigned integers.w32 x = rw w.1 (below_fits integers.w32 w.0 (omega (arith, w.2))) in
    let y : ℤ = to_z integers.w32 (of_z integers.w32 (to_z integers.w64 (of_z integers.w64 x))) in
    let same : y ≡ x = ap (λ (z : ℤ). to_z integers.w32 (of_z integers.w32 z)) (to_z-of_z integers.w64 x wide) ∙ to_z-of_z integers.w32 x narrow in
    let l = length-set out i y in
    record {
      exact = omega (arith, l, c.loop-i.invariant.exact);
      done = one_more out (λ k. get_or c.args.offsets.now k (pos 0)) (pos 0) i y (omega (arith, c.loop-i-test.true, c.requires.same_length, c.loop-i.invariant.exact)) same c.loop-i.invariant.done;
    }

pub returns : goal.returns
returns c = ext_get_or (pos 0) c.loop-i.out c.args.offsets.now c.loop-i.invariant.exact (λ k h. c.loop-i.invariant.done k (omega (arith, h, c.loop-i.invariant.exact, c.requires.same_length, c.loop-i-test.false)))
