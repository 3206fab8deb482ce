use Rattle.arrow2_offset.proofs.Appending.{value_natural, value_at, same_naturals}
use Rattle.arrow2_utf8.proofs.specification.position.Goals as goal

pub as_usize-requires : goal.as_usize-requires
as_usize-requires g c = value_natural g.O.Number.value c.args.offsets.now c.index-offsets-index.result c.args.index c.requires.valid c.requires.below c.index-offsets-index.is

pub returns : goal.returns
returns g c = same_naturals _ _ _ c.as_usize.ensures.value (value_at g.O.Number.value c.args.offsets.now c.index-offsets-index.result c.args.index c.requires.valid c.requires.below c.index-offsets-index.is)
