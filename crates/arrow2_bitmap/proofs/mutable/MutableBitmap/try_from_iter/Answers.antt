use Rattle.std.proofs.Common.{◌∙◌}
use Rattle.arrow2_bitmap.proofs.mutable.MutableBitmap.try_from_iter.Goals as goal

-- the run of the collected items is the iterator's whole run
pub returns-clause-items : goal.returns-clause-items
returns-clause-items g c =
    let run = c.in_ok-bytes.ensures.items in
    (c.into_iter.result, c.into_iter.ensures.into_iter_gives, (run.0, run.1, run.2, c.from_vec.ensures.items ∙ run.3))
