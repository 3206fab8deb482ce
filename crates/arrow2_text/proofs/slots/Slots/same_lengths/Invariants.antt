use Rattle.std.proofs.Common.{◌≡◌, ℕ, ◌<◌, ◌≤◌, get_or}
use Rattle.arrow2_model.specs.Lists.{buffer_items}
use Rattle.arrow2_offset.specs.Offsets.{lengths_of}
use Rattle.arrow2_text.proofs.slots.Slots.same_lengths.Given as goal

abbrev pub invariant-loop-index : goal.invariant-loop-index
invariant-loop-index g l = (k : ℕ) → l.start ≤ k → k < l.index → get_or (lengths_of (buffer_items l.self.offsets)) k 0 ≡ get_or (lengths_of (buffer_items l.other.offsets)) k 0
