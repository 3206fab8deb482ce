-- The model of a watched reader or writer.
use Rattle.std.specs.Prelude.{◌≡◌, ◌+◌, ℕ, Bool, true, ◌&&◌, ◌==◌, not, Result, Ok, Err, IsErrOf}

-- a reader or a writer, the number of its calls that failed, and the number of its writes since its last flush that
-- succeeded
pub record WatchedCalls (T : Type 0) : Type 0 where
  pub inner : T
  pub failed : ℕ
  pub unflushed : ℕ

-- whether a write of a text of this length failed: it returned an error, or it took 0 bytes of a text that is not empty
abbrev pub write_failed : {E : Type 0} → Result ℕ E → ℕ → Bool
write_failed (Ok taken) len = taken == 0 && not (len == 0)
write_failed (Err e) len = true

-- the number of failed calls before and after: one failed where the result is this fault, else none
abbrev pub FailsOnce : {T E : Type 0} → Result T E → E → (before after : ℕ) → Type 0
FailsOnce r fault before after = (IsErrOf r fault → after ≡ before + 1) × (¬ IsErrOf r fault → after ≡ before)
