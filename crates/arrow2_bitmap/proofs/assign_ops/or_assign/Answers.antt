use Rattle.std.proofs.Common.{◌∙◌, List, Bool, true, ap, inr, length, replicate}
use Rattle.arrow2_model.specs.Lists.{items_of}
use Rattle.arrow2_bitmap.proofs.Constant.{or_true, or_false}
use Rattle.arrow2_bitmap.proofs.assign_ops.or_assign.Goals as goal

pub returns-then-are_all-clause-items : goal.returns-then-are_all-clause-items
returns-then-are_all-clause-items c =
    let own : List Bool = c.args.lhs.now.items in
    let other : List Bool = items_of c.args.rhs.now in
    c.fill.ensures.items ∙ (ap (λ m. replicate (length m.items) true) c.lhs.view_is ∙ or_true own other c.requires.same_length (inr (c.are_all.ensures c.if-are_all.true)))

pub returns-else-not-are_all-clause-items : goal.returns-else-not-are_all-clause-items
returns-else-not-are_all-clause-items c =
    let own : List Bool = c.args.lhs.now.items in
    let other : List Bool = items_of c.args.rhs.now in
    or_false own other c.requires.same_length (c.are_all-else-are_all.ensures c.if-not-are_all.false)
