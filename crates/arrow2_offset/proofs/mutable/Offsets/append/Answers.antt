use Rattle.std.proofs.Common.{◌∙◌, arith, ap, sum, length, refl}
use Rattle.arrow2_offset.proofs.Growing.{length_slots}
use Rattle.arrow2_offset.proofs.mutable.Offsets.append.Goals as goal

pub loop-length-init : goal.loop-length-init
loop-length-init g c =
    let cursor = c.into_iter-length-iterator.ensures.into_iter_gives ∙ c.new-length-items.ensures in
    let same = c.in_ok-reserve_capacity.ensures.items in
    let n = length_slots g.O.Number.value c.args.offsets.now (length c.args.offsets.now) c.requires refl in
    let k = ap length cursor in
    let s = ap sum cursor in
    let m = ap length same.1 in
    let t = ap sum same.1 in
    record {
      start = same.0;
      grown = rw (same.1, cursor) refl;
      spare = omega (arith, n, k, m, c.in_ok-reserve_capacity.ensures.ok);
      capacity = c.in_ok-reserve_capacity.ensures.capacity;
      fits = omega (arith, s, t, same.0, c.if-total-MAX.false, c.last_number.ensures.fits);
    }
