use Rattle.std.proofs.Common.{◌∙◌, ap}
use Rattle.std.specs.Int as integers
use Rattle.std.proofs.lemmas.Int.{to_z-of_z}
use Rattle.arrow2_machine.proofs.OffsetLemmas.{one_length}
use Rattle.arrow2_machine.proofs.offsets.offsets_of.Goals as goal

pub returns : goal.returns
returns c =
    let items = rw (to_z-of_z integers.w32 c.args.first c.ranges.first) at c.in_ok-offsets.ensures.items in
    let made = rw c.unwrap.ensures at c.try_from.ensures in
    let is = rw items at made.1 in
    (ap (λ o. o.start) is, ap (λ o. o.lengths) is ∙ one_length c.args.first)
