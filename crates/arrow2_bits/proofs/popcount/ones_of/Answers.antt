use Rattle.std.proofs.Common.{refl, arith}
use Rattle.arrow2_bits.proofs.LaneCounts.{lane_counted, four_counted}
use Rattle.arrow2_bits.proofs.popcount.ones_of.Goals as goal

pub returns : goal.returns
returns c =
    let v = c.args.bytes in
    let l = c.fits-bytes.0 in
    let f = c.fits-bytes.1 in
    let a = lane_counted v 0 _ _ l f (omega arith) refl c.ones_count.ensures.counted in
    let b = lane_counted v 1 _ _ l f (omega arith) refl c.ones_count-2.ensures.counted in
    let d = lane_counted v 2 _ _ l f (omega arith) refl c.ones_count-3.ensures.counted in
    let e = lane_counted v 3 _ _ l f (omega arith) refl c.ones_count-4.ensures.counted in
    four_counted v _ _ _ _ l a b d e
