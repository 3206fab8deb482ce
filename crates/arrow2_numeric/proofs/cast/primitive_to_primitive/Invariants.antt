use Rattle.std.proofs.Common.{◌≡◌, take}
use Rattle.std.specs.List.{AllZip}
use Rattle.arrow2_primitive.specs.Primitive.{primitive_items}
use Rattle.arrow2_numeric.specs.Casts.{IsCast}
use Rattle.arrow2_numeric.proofs.cast.primitive_to_primitive.Given as goal

abbrev pub invariant-loop-index : goal.invariant-loop-index
invariant-loop-index g l = record {
  items : AllZip (IsCast g.I.Number.value g.O.Number.value g.O.Number.fits) (take l.index (primitive_items l.array)) l.numbers.items;
  data_type : l.numbers.data_type ≡ l.fn.data_type.value;
}
