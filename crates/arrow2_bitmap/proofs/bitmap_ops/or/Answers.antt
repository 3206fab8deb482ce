use Rattle.std.proofs.Common.{◌∙◌, List, Bool, true, replicate, ap}
use Rattle.std.proofs.lemmas.Result.{IfOk-weaker}
use Rattle.arrow2_model.specs.Lists.{items_of}
use Rattle.arrow2_bitmap.proofs.Constant.{or_true}
use Rattle.arrow2_bitmap.proofs.bitmap_ops.or.Goals as goal

pub returns-then-one_is_all-clause-items : goal.returns-then-one_is_all-clause-items
returns-then-one_is_all-clause-items c =
    let a : List Bool = items_of c.args.lhs.now in
    let b : List Bool = items_of c.args.rhs.now in
    IfOk-weaker c.constant_bitmap.result _ _
    (λ m e. e ∙ (ap (λ n. replicate n true) c.len.ensures.items ∙ or_true a b c.requires.same_length (c.one_is_all.ensures c.if-one_is_all.true)))
    c.constant_bitmap.ensures.items
