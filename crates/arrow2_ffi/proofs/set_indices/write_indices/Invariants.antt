use Rattle.std.proofs.Common.{◌≡◌, ◌++◌, ◌-◌, ◌≤◌, length, take}
use Rattle.arrow2_model.specs.Lists.{bits, part}
use Rattle.arrow2_ffi.specs.SetIndices.{ones_from}
use Rattle.arrow2_ffi.proofs.set_indices.write_indices.Given as goal

abbrev pub invariant-words : goal.invariant-words
invariant-words l = record {
  many : length l.indices ≡ length l.fn.indices;
  few : l.count ≤ length l.indices;
  inside : l.base ≤ l.end;
  done : take l.count l.indices ++ ones_from (part (bits l.bytes) l.offset l.end) l.base ≡ ones_from (part (bits l.bytes) l.offset l.end) l.at;
}

abbrev pub decreases-words : goal.decreases-words
decreases-words l = l.end - l.base
