use Rattle.std.proofs.Common.{◌≡◌, List, Bool, None, get_or, subst, rules, IfOk, is_some}
use Rattle.arrow2_model.specs.Lists.{items_of}
use Rattle.arrow2_primitive.specs.Primitive.{primitive_items}
use Rattle.arrow2_compute.specs.Take.{item_at}
use Rattle.arrow2_compute.proofs.ItemsAtIndices.{stated-each}
use Rattle.arrow2_compute.proofs.take.bits_by_array.Goals as goal

pub returns-clause-items : goal.returns-clause-items
returns-clause-items g c =
    let f = item_at g.I.Number.value (primitive_items c.args.array.now) in
    let indices = primitive_items c.args.indices.now in
    let stated = c.try_from_fn.ensures.items (λ position. is_some (f (get_or indices position None))) (search rules) in
    subst (λ (bits : List Bool). IfOk c.try_from_fn.result (λ b. items_of b ≡ bits)) (stated-each f is_some indices None c.len.result c.len.ensures.items) stated
