-- The model of an iterator by chunks that are borrowed mutably.
use Rattle.std.specs.Prelude.{◌≡◌, ℕ, ◌+◌, ◌-◌, ◌/◌, List, Option, nat_le, if◌then◌else◌, drop, length, MatchOption}
use Rattle.std.specs.Borrow.{MutBor}
use Rattle.arrow2_model.specs.Lists.{overwrite, part}

-- the iterator: the bytes of its chunks, the index of the next chunk in them, the number of bytes of a chunk, the bytes
-- of the remainder, and the number of bits of the remainder
pub record ChunkCursorMut : Type 0 where
  pub bytes : List ℕ
  pub at : ℕ
  pub size : ℕ
  pub remainder : List ℕ
  pub remainder_len : ℕ

-- the number of chunks still to come
abbrev pub chunks_left : ChunkCursorMut → ℕ
chunks_left cursor = (length cursor.bytes - cursor.at) / cursor.size

-- the bytes of the next chunk
abbrev pub next_chunk : ChunkCursorMut → List ℕ
next_chunk cursor = part cursor.bytes cursor.at cursor.size

-- the number of bytes that are lent next: a chunk, or none at the end
abbrev pub next_len : ChunkCursorMut → ℕ
next_len cursor = if nat_le cursor.size (length cursor.bytes - cursor.at) then cursor.size else 0

-- the iterator moved past its next n bytes, over which `written` is written
abbrev pub past : ChunkCursorMut → ℕ → List ℕ → ChunkCursorMut
past cursor n written = record cursor { bytes = overwrite cursor.bytes cursor.at written; at = cursor.at + n }

-- one call of `next`: it returns the next chunk, and the iterator keeps neither this chunk nor the bytes before it; or
-- no chunk is left, and the iterator stays as it was
abbrev pub GivesChunk : ChunkCursorMut → Option (MutBor (List ℕ)) → ChunkCursorMut → Type 0
GivesChunk s r t = MatchOption r ((chunks_left s ≡ 0) × (t ≡ s))
    (λ x. (x.now ≡ next_chunk s) × (chunks_left s ≡ chunks_left t + 1) × (t ≡ record s { bytes = drop s.size (drop s.at s.bytes); at = 0 }))
