use Rattle.std.proofs.Common.{[], sym, ◌∙◌}
use Rattle.std.proofs.lemmas.List.{get_or_default}
use Rattle.arrow2_text.specs.Binary.{binary_values}
use Rattle.arrow2_compute.proofs.comparison.binary.fn.compare_each.try_from_fn.Goals as goal

pub test-requires : goal.test-requires
test-requires g c =
    let values = binary_values c.captures.array.now in
    c.requires.callable c.args.index _ c.requires.below.1 (get_or_default values c.args.index c.value_bytes.result.now [] c.requires.below.1 ∙ sym c.value_bytes.ensures.value)

pub returns : goal.returns
returns g c =
    let values = binary_values c.captures.array.now in
    record { item = _; is_item = get_or_default values c.args.index c.value_bytes.result.now [] c.requires.below.1 ∙ sym c.value_bytes.ensures.value; returned = c.test.ensures }
