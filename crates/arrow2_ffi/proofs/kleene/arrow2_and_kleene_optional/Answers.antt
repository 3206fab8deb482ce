use Rattle.arrow2_array.specs.Kleene.{kleene_and}
use Rattle.arrow2_array.proofs.Tables.{and_paired_table, and_spelled}
use Rattle.arrow2_ffi.proofs.KleeneSteps.{on_equal_inputs}
use Rattle.arrow2_ffi.proofs.kleene.arrow2_and_kleene_optional.Goals as goal

pub returns-clause-written : goal.returns-clause-written
returns-clause-written c = on_equal_inputs c.new-lhs.ensures c.new-rhs.ensures (c.write.ensures.written kleene_and and_spelled)

pub write-requires : goal.write-requires
write-requires c = record { paired = and_paired_table }
