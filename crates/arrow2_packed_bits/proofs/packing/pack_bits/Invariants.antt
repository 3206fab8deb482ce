use Rattle.std.proofs.Common.{◌≡◌, ◌++◌, ◌*◌, drop}
use Rattle.arrow2_model.specs.Lists.{bits}
use Rattle.arrow2_packed_bits.proofs.packing.pack_bits.Given as goal

abbrev pub invariant-loop-block : goal.invariant-loop-block
invariant-loop-block l = bits l.bytes.items ++ drop (64 * l.block-index) l.items ≡ l.items
