use Rattle.std.proofs.Common.{ℕ, ◌<◌, length, map}
use Rattle.arrow2_ffi.specs.Indices.{IsIndexOrNull}
use Rattle.arrow2_ffi.specs.Validities.{items_not_null, validity_bits}
use Rattle.arrow2_ffi.proofs.index_checks.first_outside.Given as goal

abbrev pub invariant-loop-slot : goal.invariant-loop-slot
invariant-loop-slot g l = (k : ℕ) → k < l.slot → IsIndexOrNull (map g.I.Number.value l.indices) (items_not_null (validity_bits l.validity) (length l.indices)) l.items k
