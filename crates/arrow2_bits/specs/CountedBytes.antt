-- The model of bytes whose reads are counted.
use Rattle.std.specs.Prelude.{ℕ, List}

-- the bytes, and the number of reads counted so far, including the reads of other bytes that were counted before
pub record CountedBytes : Type 0 where
  pub bytes : List ℕ
  pub reads : ℕ
