use Rattle.std.proofs.Common.{◌∙◌, ◌+◌, take, get_or, ap, sym, subst, arith}
use Rattle.std.specs.List.{AllZip}
use Rattle.arrow2_model.specs.Lists.{buffer_items}
use Rattle.arrow2_compute.specs.Take.{IsItemAt}
use Rattle.arrow2_numeric.proofs.Casts.{zip-more}
use Rattle.arrow2_compute.proofs.take.values_at.Goals as goal

pub loop-index-preserved : goal.loop-index-preserved
loop-index-preserved g c =
    let R = IsItemAt (buffer_items c.args.values.now) in
    let indices = c.args.indices.now in
    let position = c.loop-index.index-index in
    let value = c.index-slots-index.result in
    let before = c.loop-index.invariant in
    let here = ap (λ l. get_or l (get_or indices position 0) value) (sym c.as_slice-slots.ensures) ∙ sym c.index-slots-index.is in
    record {
      taken = subst (λ l. AllZip R (take (position + 1) indices) l) (sym c.push_reserved.ensures.items) (zip-more R indices c.loop-index.taken.items position 0 value c.loop-index-test.true before.taken here);
      len = c.push_reserved.ensures.len ∙ ap (λ n. n + 1) before.len;
      spare = omega (arith, c.push_reserved.ensures.capacity, before.spare);
    }
