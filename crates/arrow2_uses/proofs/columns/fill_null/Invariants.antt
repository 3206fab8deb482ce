use Rattle.std.proofs.Common.{◌≡◌, ◌++◌, Some, map, unwrap_or}
use Rattle.arrow2.specs.Primitive.{primitive_items}
use Rattle.arrow2_uses.proofs.columns.fill_null.Given as goal

abbrev pub invariant-loop-item : goal.invariant-loop-item
invariant-loop-item g l = l.filled.items ++ map (λ item. Some (unwrap_or item l.value)) l.item-iterator ≡ map (λ item. Some (unwrap_or item l.value)) (primitive_items l.column)
