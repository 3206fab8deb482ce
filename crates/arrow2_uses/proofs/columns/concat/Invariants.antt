use Rattle.std.proofs.Common.{◌≡◌, take, flat_map}
use Rattle.arrow2.specs.Primitive.{primitive_items}
use Rattle.arrow2_uses.proofs.columns.concat.Given as goal

abbrev pub invariant-loop-column : goal.invariant-loop-column
invariant-loop-column g l = l.joined.items ≡ flat_map (λ column. primitive_items column) (take l.column-index l.columns)
