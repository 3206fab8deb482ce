use Rattle.std.proofs.Common.{◌≡◌, ℕ, ◌+◌, ◌-◌, ◌≤◌, ◌<◌, not, false, get_or}
use Rattle.arrow2_model.specs.Lists.{bits}
use Rattle.arrow2_walks.specs.Cursor.{IsRead}
use Rattle.arrow2_walks.proofs.cursor.find_bit.Given as goal

abbrev pub invariant-words : goal.invariant-words
invariant-words l = record {
  from : l.fn.at.index ≤ l.index;
  read : IsRead (bits l.bytes) l.offset l.end l.index l.word l.buffered;
  others : (k : ℕ) → l.fn.at.index ≤ k → k < l.index → get_or (bits l.bytes) (l.offset + k) false ≡ not l.value;
}

abbrev pub decreases-words : goal.decreases-words
decreases-words l = (l.end - l.index) + (l.end - (l.index + l.buffered))
