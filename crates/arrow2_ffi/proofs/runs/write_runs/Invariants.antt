use Rattle.std.proofs.Common.{◌≡◌, ◌≤◌, ◌++◌, length, take, zip}
use Rattle.arrow2_model.specs.Lists.{bits, part}
use Rattle.arrow2_walks.specs.Runs.{runs_from}
use Rattle.arrow2_walks.specs.Cursor.{IsRead}
use Rattle.arrow2_ffi.proofs.runs.write_runs.Given as goal

abbrev pub invariant-loop-k : goal.invariant-loop-k
invariant-loop-k l = record {
  starts : length l.starts ≡ length l.fn.starts;
  lengths : length l.lengths ≡ length l.fn.starts;
  read : IsRead (bits l.bytes) l.offset l.end l.cursor.index l.cursor.word l.cursor.buffered;
  forth : l.at ≤ l.cursor.index;
  done : zip (take l.k l.starts) (take l.k l.lengths) ++ runs_from (part (bits l.bytes) l.offset l.end) l.cursor.index ≡ runs_from (part (bits l.bytes) l.offset l.end) l.at;
}
