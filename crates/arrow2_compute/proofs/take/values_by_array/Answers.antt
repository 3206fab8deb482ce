use Rattle.std.proofs.Common.{◌≡◌, ◌∙◌, ◌+◌, ◌<◌, None, length, map, take, get_or, ap, sym, arith, is_some}
use Rattle.std.proofs.lemmas.List.{length-map, get_or-map}
use Rattle.arrow2_primitive.specs.Primitive.{primitive_items}
use Rattle.arrow2_walks.specs.Zipped.{zipped}
use Rattle.arrow2_primitive.proofs.Growing.{values-more}
use Rattle.arrow2_compute.specs.Take.{item_at}
use Rattle.arrow2_compute.proofs.take.values_by_array.Goals as goal

pub loop-position-preserved : goal.loop-position-preserved
loop-position-preserved g c =
    let f = item_at g.I.Number.value (primitive_items c.args.array.now) in
    let indices = primitive_items c.args.indices.now in
    let position = c.loop-position.position in
    let before = c.loop-position.invariant in
    let less : position < length indices = omega (arith, c.loop-position-test.true, c.len-position-end.ensures.items) in
    let n = length-map indices f in
    let is : c.item_at-item.result ≡ get_or (map f indices) position None = c.item_at-item.ensures ∙ (ap f c.get.ensures ∙ sym (get_or-map f indices position None None less)) in
    let more = values-more (map f indices) c.loop-position.taken.items position c.item_at-item.result None c.default.result c.unwrap_or.result (omega (arith, n, less)) (omega (arith, c.loop-position.taken.ok.0, before.len)) is c.unwrap_or.ensures before.items in
    record {
      items = ap (λ xs. zipped xs (map is_some (take (position + 1) (map f indices)))) c.push_reserved.ensures.items ∙ more;
      len = c.push_reserved.ensures.len ∙ ap (λ n. n + 1) before.len;
      spare = omega (arith, c.push_reserved.ensures.capacity, before.spare);
    }
