use Rattle.std.proofs.Common.{◌∙◌}
use Rattle.arrow2_offset.proofs.Appending.{value_last}
use Rattle.arrow2_offset.proofs.mutable.Offsets.last.Goals as goal

pub returns-clause-value : goal.returns-clause-value
returns-clause-value g c =
    let v = c.self.inside.offsets in
    rw (← c.self.view_is) (value_last g.O.Number.value v.items c.index.result.now c.len.result c.self.invariant.0 (c.len.ensures ∙ v.ok.0) c.index.ensures)
