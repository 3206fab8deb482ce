use Rattle.std.proofs.Common.{◌≡◌, map}
use Rattle.arrow2_text.specs.Growth.{bytes_of_items}
use Rattle.arrow2_text.proofs.mutable_generic_byte_array.MutableGenericByteArray.collect_items.Given as goal

abbrev pub invariant-loop-item : goal.invariant-loop-item
invariant-loop-item g l = record {
  items : l.array.items ≡ map g.S.AsItem.item l.yielded;
  bytes : l.array.bytes ≡ bytes_of_items (map g.S.AsItem.item l.yielded);
  data_type : l.array.data_type ≡ g.T.ByteArrayType.default_type g.O.OffsetNumber.IS_LARGE;
}
