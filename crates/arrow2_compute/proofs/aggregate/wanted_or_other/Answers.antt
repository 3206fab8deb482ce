use Rattle.std.proofs.Common.{◌≡◌, ◌∙◌, All, subst, sym, arith, Some, take_all}
use Rattle.arrow2_array.specs.Items.{boolean_items}
use Rattle.arrow2_compute.proofs.Extremes.{is-wanted, no-value, none-wanted, other-found, wanted-found}
use Rattle.arrow2_compute.proofs.aggregate.wanted_or_other.Goals as goal

pub returns-then-null_count-len : goal.returns-then-null_count-len
returns-then-null_count-len c = no-value (boolean_items c.args.array.now) (omega (arith, c.null_count.ensures, c.if-null_count-len.true, c.len.ensures))

pub returns-then-eq : goal.returns-then-eq
returns-then-eq c =
    let items = boolean_items c.args.array.now in
    let k = c.loop-index.index in
    wanted-found c.args.wanted items k (omega (arith, c.loop-index-test.true, c.len-index-end.ensures)) (sym c.get.ensures ∙ is-wanted c.get.result c.args.wanted c.eq.result c.eq.ensures c.if-eq.true)

pub loop-index-preserved : goal.loop-index-preserved
loop-index-preserved c =
    let items = boolean_items c.args.array.now in
    let k = c.loop-index.index in
    none-wanted c.args.wanted c.eq.result items k c.get.result (omega (arith, c.loop-index-test.true, c.len-index-end.ensures)) c.get.ensures c.eq.ensures c.if-eq.false c.loop-index.invariant

pub returns : goal.returns
returns c =
    let items = boolean_items c.args.array.now in
    let all = subst (All (λ item. item ≡ Some c.args.wanted → ⊥)) (take_all c.loop-index.index items (omega (arith, c.loop-index-test.false, c.len-index-end.ensures))) c.loop-index.invariant in
    other-found c.args.wanted items all (λ e. c.if-null_count-len.false (omega (arith, e, c.null_count.ensures, c.len.ensures)))
