use Rattle.std.proofs.Common.{ℕ, ◌<◌, map, sum, take, IsTrue, ◌↔◌, IsCharBoundary}
use Rattle.arrow2_offset.specs.Offsets.{lengths_of}
use Rattle.arrow2_utf8.proofs.specification.stand_between.Given as goal

abbrev pub invariant-loop-index : goal.invariant-loop-index
invariant-loop-index g l = IsTrue l.between ↔ ((k : ℕ) → k < l.index → IsCharBoundary l.bytes (sum (take k (lengths_of (map g.O.Number.value l.offsets)))))
