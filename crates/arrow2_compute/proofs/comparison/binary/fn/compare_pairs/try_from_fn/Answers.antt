use Rattle.std.proofs.Common.{[], sym, ◌∙◌}
use Rattle.std.proofs.lemmas.List.{get_or_default}
use Rattle.arrow2_text.specs.Binary.{binary_values}
use Rattle.arrow2_compute.proofs.comparison.binary.fn.compare_pairs.try_from_fn.Goals as goal

pub test-requires : goal.test-requires
test-requires g c =
    let left = binary_values c.captures.lhs.now in
    let right = binary_values c.captures.rhs.now in
    c.requires.callable c.args.index _ _ c.requires.left.1
    (get_or_default left c.args.index c.value_bytes.result.now [] c.requires.left.1 ∙ sym c.value_bytes.ensures.value)
    (get_or_default right c.args.index c.value_bytes-2.result.now [] c.requires.right.1 ∙ sym c.value_bytes-2.ensures.value)

pub returns : goal.returns
returns g c =
    let left = binary_values c.captures.lhs.now in
    let right = binary_values c.captures.rhs.now in
    record {
      left = _;
      right = _;
      is_left = get_or_default left c.args.index c.value_bytes.result.now [] c.requires.left.1 ∙ sym c.value_bytes.ensures.value;
      is_right = get_or_default right c.args.index c.value_bytes-2.result.now [] c.requires.right.1 ∙ sym c.value_bytes-2.ensures.value;
      returned = c.test.ensures;
    }
