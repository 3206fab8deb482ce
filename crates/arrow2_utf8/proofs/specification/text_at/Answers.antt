use Rattle.std.proofs.Common.{drop, [], arith}
use Rattle.arrow2_model.specs.Lists.{buffer_items}
use Rattle.arrow2_offset.specs.Offsets.{start_of, lengths_of}
use Rattle.arrow2_offset.proofs.NestedLists.{length-cut}
use Rattle.arrow2_utf8.proofs.specification.text_at.Goals as goal

pub from_utf8_unchecked-requires : goal.from_utf8_unchecked-requires
from_utf8_unchecked-requires g c =
    let xs = buffer_items c.args.offsets.now in
    let n = length-cut (drop (start_of xs) c.args.values.now) (lengths_of xs) in
    rw (c.slot_of-bytes.ensures, c.as_slice.ensures.offsets) (c.requires.texts.texts c.args.slot [] (omega (arith, n, c.requires.below)))
