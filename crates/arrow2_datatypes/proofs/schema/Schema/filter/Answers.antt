use Rattle.std.proofs.Common.{◌<◌, ◌∙◌, length, sym, true, false, arith}
use Rattle.arrow2_datatypes.proofs.Filter.{kept_more, kept_same, back_stays, back_same, left_at, length_stays}
use Rattle.arrow2_datatypes.proofs.schema.Schema.filter.Goals as goal
use Rattle.arrow2_datatypes.proofs.schema.Schema.filter.Goals.{then-predicate, else-predicate}

pub loop-index-preserved : goal.loop-index-preserved
loop-index-preserved g c =
    let first = c.args.self.fields.items in
    let now = c.loop-index.fields.items in
    let n = c.loop-index.index in
    let held = c.loop-index.invariant in
    let inside : n < length first = omega (arith, c.loop-index-test.true, c.len-index-end.ensures) in
    let own = sym (c.index.ensures ∙ left_at first now n c.index.result.now held.2) in
    elim c.if-predicate.branch [
      | then-predicate w ↦ rw (w.kept-is, w.fields-is) (
        omega (arith, held.0),
        length_stays now w.swap.new.self.items c.loop-index.kept n c.index.result.now w.swap.ensures.by_index ∙ held.1,
        back_stays now w.swap.new.self.items c.loop-index.kept n c.index.result.now held.0 w.swap.ensures.by_index ∙ back_same first now n held.2,
        λ accepts results. kept_more accepts first now w.swap.new.self.items c.loop-index.kept n c.index.result.now held.0 inside held.1 held.2 c.index.ensures (sym (results n c.index.result true inside own w.if-predicate.ensures)) w.swap.ensures.by_index (held.3 accepts results),
      )
      | else-predicate w ↦ rw (w.kept-is, w.fields-is) (
        omega (arith, held.0),
        held.1,
        back_same first now n held.2,
        λ accepts results. kept_same accepts first now c.loop-index.kept n c.index.result.now inside held.2 c.index.ensures (sym (results n c.index.result false inside own w.if-predicate.ensures)) (held.3 accepts results),
      )
    ]
