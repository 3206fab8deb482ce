use Rattle.std.proofs.Common.{sym}
use Rattle.arrow2_bitmap.proofs.immutable.fn.Bitmap.from_slices_with.try_from_fn.Goals as goal

pub f-requires : goal.f-requires
f-requires g c = c.requires.callable c.args.index _ _ c.requires.inside.0 (sym c.index-left-index.is) (sym c.index-right-index.is)

pub returns : goal.returns
returns g c = record { left = _; right = _; is_left = sym c.index-left-index.is; is_right = sym c.index-right-index.is; returned = c.f.ensures }
