use Rattle.std.proofs.Common.{◌∙◌, ◌+◌, map, take, ap, arith, is_some}
use Rattle.arrow2_walks.specs.Zipped.{zipped}
use Rattle.arrow2_primitive.proofs.Growing.{values-more}
use Rattle.arrow2_primitive.proofs.array.values_of.Goals as goal

pub loop-item-preserved : goal.loop-item-preserved
loop-item-preserved g c =
    let items = c.args.items.now in
    let k = c.loop-item.item-index in
    let before = c.loop-item.invariant in
    let more = values-more items c.loop-item.values.items k c.item-item.result c.item-item.result c.default.result c.unwrap_or.result c.loop-item-test.true (omega (arith, c.loop-item.values.ok.0, before.len)) c.item-item.is c.unwrap_or.ensures before.items in
    record {
      items = ap (λ xs. zipped xs (map is_some (take (k + 1) items))) c.push_reserved.ensures.items ∙ more;
      len = c.push_reserved.ensures.len ∙ ap (λ n. n + 1) before.len;
      spare = omega (arith, c.push_reserved.ensures.capacity, before.spare);
    }
