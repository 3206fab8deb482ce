-- The state of a buffer after a loan of its items has ended.
use Rattle.std.specs.Prelude.{List}
use Rattle.std.specs.Borrow.{LendsIf, MutBor, Fml, Array, RattleType}
use Rattle.std.specs.declared.option.Option.{Option}
use Rattle.arrow2_model.specs.Lists.{BufferStorage}
use Rattle.arrow2_buffer.specs.Loans.{overwrite_lent}
use Rattle.arrow2_buffer.specs.contracts.immutable.Buffer.{the_row}

-- r is the items of the buffer: after the loan, the buffer has the items written through r in their place; where r is
-- none, the buffer is as it was
abbrev pub LendsItems : (T : RattleType) → MutBor (BufferStorage T.Denot) → Option (MutBor (List T.Denot)) → Fml
LendsItems T buffer r = LendsIf (the_row T) (Array T 0) buffer r (λ others. record buffer.now { storage = overwrite_lent buffer.now.storage buffer.now.offset others }) buffer.now
