use Rattle.std.proofs.Common.{ap, sym, ◌∙◌, length, subst, arith}
use Rattle.arrow2_model.specs.Lists.{bits, part}
use Rattle.arrow2_model.proofs.Parts.{part-part}
use Rattle.arrow2_model.proofs.Cursors.{length-part_bits}
use Rattle.arrow2_types.specs.Failures.{error_of}
use Rattle.arrow2_packed_bits.specs.Growth.{Appends}
use Rattle.arrow2_array.proofs.mutable.extend_part.Goals as goal

pub returns : goal.returns
returns c =
    let bytes = c.as_slice-offset.result.0.now in
    let offset = c.as_slice-offset.result.1 in
    let n = c.as_slice-offset.result.2 in
    let long = length-part_bits bytes offset n c.as_slice-offset.ensures.inside in
    let same = ap length c.as_slice-offset.ensures.items in
    let cut = part-part (bits bytes) offset n c.args.start c.args.len (omega (arith, long, same, c.requires.inside)) in
    let is = sym cut ∙ ap (λ items. part items c.args.start c.args.len) c.as_slice-offset.ensures.items in
    subst (λ more. Appends error_of c.extend_from_slice.result c.args.items.now c.extend_from_slice.new.self more) is c.extend_from_slice.ensures
