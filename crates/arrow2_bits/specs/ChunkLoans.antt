-- The state of an iterator by chunks after a loan of its bytes has ended.
use Rattle.std.specs.Prelude.{ℕ, List, [], Option}
use Rattle.std.specs.Borrow.{Lends, LendsIf, MutBor, Fml, Array, RattleType, u8}
use mir.Syntax.{named}
use Rattle.arrow2_model.specs.Lists.{overwrite}
use Rattle.arrow2_bits.specs.ChunksMut.{ChunkCursorMut, next_len, past}
use Rattle.arrow2_bits.specs.contracts.chunks_exact_mut.BitChunksExactMut.{the_row}

-- r is the remainder of the iterator: after the loan, the iterator has the bytes written through r in its place
abbrev pub LendsRemainder : (T : RattleType) → MutBor ChunkCursorMut → MutBor (List ℕ) → Fml
LendsRemainder T cursor r = Lends (the_row (record { mir = named 1; lft = [] }) T) (Array u8 0) cursor r (λ written. record cursor.now { remainder = written })

-- r is the bytes of the iterator's chunks: after the loan, the iterator has the bytes written through r in their place
abbrev pub LendsBytes : (T : RattleType) → MutBor ChunkCursorMut → MutBor (List ℕ) → Fml
LendsBytes T cursor r = Lends (the_row (record { mir = named 1; lft = [] }) T) (Array u8 0) cursor r (λ written. record cursor.now { bytes = written })

-- r is the part of these bytes from index start on: after the loan, the iterator has the bytes written through r in its
-- place
abbrev pub LendsBytesPart : (T : RattleType) → MutBor ChunkCursorMut → ℕ → MutBor (List ℕ) → Fml
LendsBytesPart T cursor start r = Lends (the_row (record { mir = named 1; lft = [] }) T) (Array u8 0) cursor r (λ written. record cursor.now { bytes = overwrite cursor.now.bytes start written })

-- r is the next chunk of the iterator, or no bytes at the end: after the loan, the iterator is past the chunk, and has
-- the bytes written through r in its place
abbrev pub LendsNext : (T : RattleType) → MutBor ChunkCursorMut → MutBor (List ℕ) → Fml
LendsNext T cursor r = Lends (the_row (record { mir = named 1; lft = [] }) T) (Array u8 0) cursor r (past cursor.now (next_len cursor.now))

-- r is the next chunk of the iterator: after the loan, the iterator is past the chunk, and has the bytes written
-- through r in its place; where r is none, the iterator is as it was
abbrev pub LendsNextIf : (T : RattleType) → MutBor ChunkCursorMut → Option (MutBor (List ℕ)) → Fml
LendsNextIf T cursor r = LendsIf (the_row (record { mir = named 1; lft = [] }) T) (Array u8 0) cursor r (past cursor.now cursor.now.size) cursor.now
