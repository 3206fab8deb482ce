use Rattle.std.proofs.Common.{◌≡◌, ◌+◌, ◌<◌, ◌≤◌, ◌++◌, ◌^◌, length, map, take, All}
use Rattle.arrow2_model.specs.Lists.{unnum}
use Rattle.arrow2_chunk.specs.Ones.{ones}
use Rattle.arrow2_ffi.proofs.set_indices.write_ones.Given as goal

abbrev pub invariant-loop-one : goal.invariant-loop-one
invariant-loop-one l = record {
  many : length l.indices ≡ length l.fn.indices;
  few : l.count ≤ length l.indices;
  fit : All (λ index. index < 2 ^ 64) (map (λ k. l.base + k) l.one-iterator);
  done : take l.count l.indices ++ map (λ k. l.base + k) l.one-iterator ≡ take l.fn.count l.fn.indices ++ map (λ k. l.base + k) (ones (unnum 64 l.word));
}
