-- Indices of bits, and the runs that an iterator has left.
use Rattle.std.specs.Prelude.{◌≡◌, ℕ, ◌+◌, ◌<◌, ◌≤◌, List, Bool, Option, not, get_or, false}
use Rattle.std.specs.Iterator.{YieldsFirst}
use Rattle.arrow2_model.specs.Lists.{bit}

-- p is the first index from `at` up to `end` whose bit, counted from bit `offset` on, is `value`: `end` where none is
pub record IsFirst (items : List Bool) (offset at end : ℕ) (value : Bool) (p : ℕ) : Type 0 where
  pub from : at ≤ p
  pub within : p ≤ end
  pub others : (k : ℕ) → at ≤ k → k < p → get_or items (offset + k) false ≡ not value
  pub there : p < end → get_or items (offset + p) false ≡ value

-- the lowest `buffered` bits of a word are those from index `at` on, counted from bit `offset` on, and none is past
-- `end`
pub record IsRead (items : List Bool) (offset end at word buffered : ℕ) : Type 0 where
  pub few : buffered ≤ 64
  pub within : at + buffered ≤ end
  pub same : (i : ℕ) → i < buffered → bit word i ≡ get_or items (offset + (at + i)) false

-- the runs still to come, each by its first index and its length, and how many items are true in all
pub record RunsLeft : Type 0 where
  pub runs : List (ℕ × ℕ)
  pub slots : ℕ

-- one step of such an iterator: the first run comes, and the number of true items in all stays
pub record GivesRun (s : RunsLeft) (r : Option (ℕ × ℕ)) (t : RunsLeft) : Type 0 where
  pub runs : YieldsFirst (λ (w : RunsLeft). w.runs) s r t
  pub slots : t.slots ≡ s.slots
