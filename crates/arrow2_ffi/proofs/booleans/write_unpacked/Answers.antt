use Rattle.std.proofs.Common.{◌∙◌, ℕ, ◌+◌, List, Bool, false, length, get_or, sym, arith, ext_get_or, length-set}
use Rattle.arrow2_model.specs.Lists.{bits, part}
use Rattle.arrow2_model.proofs.Parts.{get_or-part}
use Rattle.arrow2_model.proofs.Cursors.{length-part_bits}
use Rattle.arrow2_offset.proofs.ItemWrites.{one_more}
use Rattle.arrow2_ffi.proofs.booleans.write_unpacked.Goals as goal

pub loop-i-preserved : goal.loop-i-preserved
loop-i-preserved c =
    let i : ℕ = c.loop-i.i in
    let out : List Bool = c.loop-i.out in
    let x : Bool = c.get_bit_from.result in
    let l = length-set out i x in
    record {
      exact = omega (arith, l, c.loop-i.invariant.exact);
      done = one_more out (λ k. get_or (bits c.args.bits.0.now) (c.args.bits.1 + k) false) false i x (omega (arith, c.loop-i-test.true, c.loop-i.invariant.exact)) c.get_bit_from.ensures c.loop-i.invariant.done;
    }

pub returns : goal.returns
returns c =
    let n : ℕ = length c.args.out.now in
    let l = length-part_bits c.args.bits.0.now c.args.bits.1 n c.requires.inside in
    ext_get_or false c.loop-i.out (part (bits c.args.bits.0.now) c.args.bits.1 n) (c.loop-i.invariant.exact ∙ sym l) (
    λ k h. c.loop-i.invariant.done k (omega (arith, h, c.loop-i.invariant.exact, c.loop-i-test.false)) ∙ sym (get_or-part (bits c.args.bits.0.now) c.args.bits.1 n k false (omega (arith, h, c.loop-i.invariant.exact))))
