use Rattle.std.proofs.Common.{◌≡◌}
use Rattle.arrow2_datatypes.specs.Types.{of_primitive}
use Rattle.arrow2_primitive.proofs.mutable.MutablePrimitiveArray.collect_items.Given as goal

abbrev pub invariant-loop-item : goal.invariant-loop-item
invariant-loop-item g l = record {
  items : l.array.items ≡ l.yielded;
  data_type : l.array.data_type ≡ of_primitive g.T.NativeType.PRIMITIVE;
}
