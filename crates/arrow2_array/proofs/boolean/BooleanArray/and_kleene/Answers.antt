use Rattle.arrow2_array.specs.Kleene.{kleene_and}
use Rattle.arrow2_array.proofs.Tables.{and_paired_table, and_spelled}
use Rattle.arrow2_array.proofs.boolean.BooleanArray.and_kleene.Goals as goal

pub by_tables-requires-clause-paired : goal.by_tables-requires-clause-paired
by_tables-requires-clause-paired c = and_paired_table

pub returns-clause-items : goal.returns-clause-items
returns-clause-items c = c.by_tables.ensures.items kleene_and and_spelled
