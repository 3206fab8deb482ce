use Rattle.std.proofs.Common.{rules}
use Rattle.arrow2_ffi.proofs.WriteSteps.{wrote}
use Rattle.arrow2_ffi.proofs.tables.arrow2_ternary_table.Goals as goal

pub returns : goal.returns
returns c = wrote (search rules) (search rules) (rw c.copy.ensures.items at c.assign_three.ensures)
