use Rattle.arrow2_offset.proofs.Growing.{ends_in_order, spread}
use Rattle.arrow2_offset.proofs.slot.total_length.Goals as goal

pub distance-requires : goal.distance-requires
distance-requires g c = ends_in_order g.O.Number.value c.args.offsets.now c.index-offsets-0.result c.index-offsets-offsets.result c.requires c.index-offsets-0.is c.index-offsets-offsets.is

pub returns : goal.returns
returns g c = spread g.O.Number.value c.args.offsets.now c.index-offsets-0.result c.index-offsets-offsets.result c.distance.result c.requires c.index-offsets-0.is c.index-offsets-offsets.is c.distance.ensures
