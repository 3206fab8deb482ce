use Rattle.std.proofs.Common.{◌-◌, map, arith, pos}
use Rattle.std.proofs.lemmas.List.{get_or-map}
use Rattle.arrow2_offset.proofs.Order.{le_stated, rises_more}
use Rattle.arrow2_offset.proofs.check.is_rising.Goals as goal

pub loop-i-preserved : goal.loop-i-preserved
loop-i-preserved g c =
    let i = c.loop-i.i in
    let items = c.args.offsets.now in
    let v = g.O.Number.value in
    let stated = le_stated v g.O.PartialOrd.partial_cmp _ _ c.le-rising.result (g.met.O.Number.order_law _ _ g.met.O.Integral.exact_law) c.le-rising.ensures in
    record {
      bound = omega (arith, c.loop-i-test.true);
      so_far = rises_more (map v items) i c.loop-i.rising c.le-rising.result c.loop-i.auto.i c.loop-i.invariant.so_far (rw (get_or-map v items (i - 1) c.index-offsets-i.result (pos 0) (omega (arith, c.loop-i-test.true)), get_or-map v items i c.index-offsets-i-in-loop-i.result (pos 0) c.loop-i-test.true, ← c.index-offsets-i.is, ← c.index-offsets-i-in-loop-i.is) stated);
    }
