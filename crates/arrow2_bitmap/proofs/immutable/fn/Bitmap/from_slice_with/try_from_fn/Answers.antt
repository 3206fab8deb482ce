use Rattle.std.proofs.Common.{sym}
use Rattle.arrow2_bitmap.proofs.immutable.fn.Bitmap.from_slice_with.try_from_fn.Goals as goal

pub f-requires : goal.f-requires
f-requires g c = c.requires.callable c.args.index _ c.requires.inside (sym c.index-items-index.is)

pub returns : goal.returns
returns g c = record { item = _; is_item = sym c.index-items-index.is; returned = c.f.ensures }
