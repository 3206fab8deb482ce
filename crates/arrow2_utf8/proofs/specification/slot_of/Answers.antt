use Rattle.std.proofs.Common.{map, drop, refl, arith}
use Rattle.arrow2_offset.specs.Offsets.{start_of, lengths_of}
use Rattle.arrow2_offset.proofs.NestedLists.{length-cut, read-cut}
use Rattle.arrow2_utf8.proofs.Between.{sum-take-step}
use Rattle.arrow2_utf8.specs.Texts.{slot_values}
use Rattle.arrow2_utf8.proofs.specification.slot_of.Goals as goal

pub returns : goal.returns
returns g c =
    let xs = map g.O.Number.value c.args.offsets.now in
    let values = c.args.values.now in
    let ns = lengths_of xs in
    let n = length-cut (drop (start_of xs) values) ns in
    let next = sum-take-step ns c.args.slot in
    read-cut values (start_of xs) ns (slot_values xs values) c.args.slot c.position.result c.position-2.result refl (omega (arith, n, c.requires.below)) c.position.ensures (omega (arith, next, c.position.ensures, c.position-2.ensures))
