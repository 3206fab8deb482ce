use Rattle.std.proofs.Common.{◌≡◌, ◌∙◌, length, sym}
use Rattle.arrow2_model.proofs.Cursors.{length-part_bits}
use Rattle.arrow2_array.proofs.Tables.{by_tables}
use Rattle.arrow2_ffi.specs.Ranges.{first_bits}
use Rattle.arrow2_ffi.specs.Validities.{items_not_null, validity_bits}
use Rattle.arrow2_ffi.proofs.KleeneSteps.{length-valid_items}
use Rattle.arrow2_ffi.proofs.WriteSteps.{wrote}
use Rattle.arrow2_ffi.proofs.kleene.write.Goals as goal

pub returns-clause-written : goal.returns-clause-written
returns-clause-written g c f spelled =
    let n = c.args.length in
    let l = c.args.lhs in
    let r = c.args.rhs in
    let left = c.is_inside.ensures.0 c.if-not-is_inside.false in
    let right = c.is_inside-else-not-is_inside.ensures.0 c.if-not-is_inside-2.false in
    let xs = first_bits l.values n in
    let ns = items_not_null (validity_bits l.validity) n in
    let ys = first_bits r.values n in
    let ms = items_not_null (validity_bits r.validity) n in
    let x : length xs ≡ n = length-part_bits l.values.0.now l.values.1 n left.0 in
    let y : length ys ≡ n = length-part_bits r.values.0.now r.values.1 n right.0 in
    let a = length-valid_items l.validity n left.1 in
    let b = length-valid_items r.validity n right.1 in
    let values = c.write_two.ensures in
    let validity = c.write_known.ensures in
    wrote (left, right) (values.canonical.exact, validity.canonical.exact) (record {
      items = rw (values.items, validity.items) (by_tables _ _ f xs ns ys ms spelled (a ∙ sym x) (y ∙ sym x) (b ∙ sym x));
      values = values;
      validity = validity;
    })
