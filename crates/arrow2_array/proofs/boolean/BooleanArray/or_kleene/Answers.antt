use Rattle.arrow2_array.specs.Kleene.{kleene_or}
use Rattle.arrow2_array.proofs.Tables.{or_paired_table, or_spelled}
use Rattle.arrow2_array.proofs.boolean.BooleanArray.or_kleene.Goals as goal

pub by_tables-requires-clause-paired : goal.by_tables-requires-clause-paired
by_tables-requires-clause-paired c = or_paired_table

pub returns-clause-items : goal.returns-clause-items
returns-clause-items c = c.by_tables.ensures.items kleene_or or_spelled
